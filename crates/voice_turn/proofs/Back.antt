-- What a served or a refused voice's parts come back as: lent, left by the answer, and put where they stood. By the two answers; a refused
-- voice's part is the part that was there, and putting it back changes nothing. Assumes nothing.
use mathlib.Core.Path.{◌≡◌, sym, ap, ◌∙◌}
use mathlib.Core.Bool.{true, false}
use mathlib.Core.List.{List, ◌++◌}
use Prim.Native.Nat.{ℕ, ◌+◌, ◌-◌, ◌*◌, ◌≤◌}
use lib.IntN.{ℤ}
use lib.ListN.{length, take, drop}
use Rattle.lists.proofs.Splice.{lent_is, length_part, splice_own, called_is_splice}
use Rattle.lists.specs.Splice.{part}
use Rattle.fields.specs.Fields.{configuration, status, total}
use Rattle.layout.specs.declared.Layout.{Layout}
use Rattle.settings.specs.Steps.{coefficient_bytes}
use Rattle.voice.specs.declared.record.Voice.{Voice}
use Rattle.voice_frame.specs.VoiceFrame.{fed, voice_frame, Answer, served, refused, lane_after, configuration_after, status_after}
use Rattle.stems.specs.declared.Fixed.{Fixed}
use Rattle.stems.specs.Memory.{lane_length, lane_at, lane_of, place_of, bytes_of}
use Rattle.stems.specs.Call.{written}
use Rattle.stems.specs.Inner.{LongAs}
use Rattle.voice_turn.specs.Turn.{answer_to, region_by, lanes_with}

-- a voice's frame on what is lent of a region read and of the lanes, with a copy of its coefficients, is its frame in memory
pub answer_is : (fx : Fixed) (i : ℕ) (v : Voice) (read other window : List ℕ) (lanes : List ℤ) (copied : List ℕ)
    → let L = lane_length (length lanes) in
    let at = fx.layout.configurations + total configuration * i in
    copied ≡ part (fx.layout.coefficients + coefficient_bytes * i) coefficient_bytes read
    → voice_frame
    (fed v (take (i * L + L - i * L) (drop (i * L) lanes)) (take (at + total configuration - at) (drop at read)) copied window fx.base)
    ≡ answer_to fx false i v read other window lanes
unfolding answer_to lane_of lane_at bytes_of place_of
answer_is fx i v read other window lanes copied e =
    let L = lane_length (length lanes) in
    let at = fx.layout.configurations + total configuration * i in
    λ j. voice_frame (fed v (lent_is (i * L) L lanes j) (lent_is at (total configuration) read j) (e j) window fx.base)

-- a part that came back as it was
same_back : {A : Type 0} (l last : List A) (a n : ℕ) → a + n ≤ length l → last ≡ take (a + n - a) (drop a l)
    → take a l ++ (last ++ drop (a + n - a) (drop a l)) ≡ l
same_back l last a n h e = called_is_splice l last _ a n h (e ∙ lent_is a n l) (length_part a n l h) ∙ splice_own a n l h

-- the length of what was left, by that of what came back
left_long : {A : Type 0} {n : ℕ} (last new : List A) → last ≡ new → length last ≡ n → length new ≡ n
left_long last new e k = ap length (sym e) ∙ k

pub long : (L : ℕ) (a : Answer) (lane lastLane : List ℤ) (bytes lastBytes report lastReport : List ℕ)
    → lastLane ≡ lane_after a lane → length lastLane ≡ L
    → lastBytes ≡ configuration_after a bytes → length lastBytes ≡ total configuration
    → lastReport ≡ status_after a report → length lastReport ≡ total status
    → LongAs L a
unfolding LongAs
long L (served g) lane lastLane bytes lastBytes report lastReport e k f l h m =
    (left_long lastLane g.lane e k, left_long lastBytes g.configuration f l, left_long lastReport g.status h m)
long L (refused n) lane lastLane bytes lastBytes report lastReport e k f l h m = tt

-- the lanes, with voice i's lane back
pub lanes_back : (i : ℕ) (a : Answer) (lanes last : List ℤ)
    → let L = lane_length (length lanes) in
    i * L + L ≤ length lanes → last ≡ lane_after a (take (i * L + L - i * L) (drop (i * L) lanes)) → length last ≡ L
    → take (i * L) lanes ++ (last ++ drop (i * L + L - i * L) (drop (i * L) lanes)) ≡ lanes_with i a lanes
unfolding lanes_with lane_at
lanes_back i (served g) lanes last h e k =
    let L = lane_length (length lanes) in
    called_is_splice lanes last g.lane (i * L) L h e (left_long last g.lane e k)
lanes_back i (refused n) lanes last h e k = same_back lanes last (i * lane_length (length lanes)) (lane_length (length lanes)) h e

-- the region that is read, with voice i's configuration back
pub read_back : (l : Layout) (i : ℕ) (a : Answer) (region last : List ℕ)
    → let at = l.configurations + total configuration * i in
    at + total configuration ≤ length region
    → last ≡ configuration_after a (take (at + total configuration - at) (drop at region)) → length last ≡ total configuration
    → take at region ++ (last ++ drop (at + total configuration - at) (drop at region)) ≡ region_by l i a true region
unfolding region_by written place_of
read_back l i (served g) region last h e k =
    called_is_splice region last g.configuration (l.configurations + total configuration * i) (total configuration) h e
    (left_long last g.configuration e k)
read_back l i (refused n) region last h e k =
    same_back region last (l.configurations + total configuration * i) (total configuration) h e

-- and the other one, with its status back
pub other_back : (l : Layout) (i : ℕ) (a : Answer) (region last : List ℕ)
    → let at = l.statuses + total status * i in
    at + total status ≤ length region
    → last ≡ status_after a (take (at + total status - at) (drop at region)) → length last ≡ total status
    → take at region ++ (last ++ drop (at + total status - at) (drop at region)) ≡ region_by l i a false region
unfolding region_by written place_of
other_back l i (served g) region last h e k =
    called_is_splice region last g.status (l.statuses + total status * i) (total status) h e (left_long last g.status e k)
other_back l i (refused n) region last h e k = same_back region last (l.statuses + total status * i) (total status) h e
