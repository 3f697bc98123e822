-- A good memory is accepted, and an accepted one is good; the recording's writes keep it so, and keep what two memories have in common. By
-- taking the numbers apart, and by induction on the writes. Assumes nothing.
use mathlib.Core.Path.{◌≡◌, refl, sym, ap, ◌∙◌}
use mathlib.Core.Bool.{Bool, true, cond}
use mathlib.Core.List.{List, [], ◌∷◌}
use Prim.Native.Nat.{ℕ, ◌*◌, ◌<◌}
use native.Mathlib.Omega.{arith}
use lib.Dec.{ltb}
use lib.IntN.{ℤ}
use lib.ListN.{length, set, length-set}
use borrow.Author.Tests.{le-ltb}
use Rattle.lists.specs.Some.{some, every}
use Rattle.lists.specs.Splice.{part}
use Rattle.lists.proofs.Bools.{and_both, passed}
use Rattle.lists.proofs.Some.{every_set}
use Rattle.lists.proofs.Splice.{same_set}
use Rattle.layout.specs.declared.Layout.{Layout}
use Rattle.voice.specs.Malformed.{malformed}
use Rattle.voice.specs.Range.{is_byte, signed}
use Rattle.stems.specs.declared.Fixed.{Fixed}
use Rattle.stems.specs.Memory.{Memory, Lent, Typed, lane_length, lane_of, place_of, bytes_of}
use Rattle.stems.specs.Call.{or_else, lengths, lengths_number, whole_number, alone_number}
use Rattle.stems.specs.Stems.{Write, stored, Frame, TypedFrame, recorded}
use Rattle.stems.proofs.Lanes.{lane_is, parts_same}
use Rattle.stems.proofs.Shape.{neither, fits}
use Rattle.stems.proofs.Serve.{Good, Same}

-- ---- the whole-call number is 0 exactly for good memory and 1,920 mix values

module _ (fx : Fixed) where
  pub accepted : (x : Lent) → Good fx x.memory → length x.mixes ≡ 1920 → whole_number fx x ≡ 0
  unfolding whole_number
  accepted x g e =
      let m = x.memory in
      let bad = some (malformed (lane_length (length m.lanes))) m.records in
      ap (λ n. or_else n (cond bad 7 0)) (ap (lengths_number fx (lengths m)) e ∙ g.fit) ∙ ap (λ b. cond b 7 0) g.formed

  pub accepted_one : (v : ℕ) (x : Lent) → v < 24 → whole_number fx x ≡ 0 → alone_number fx v x ≡ 0
  unfolding alone_number
  accepted_one v x h e = ap (λ n. or_else n (cond (ltb 23 v) 10 0)) e ∙ ap (λ b. cond b 10 0) (le-ltb 23 v (omega arith))

  pub good : (x : Lent) → Typed x.memory → whole_number fx x ≡ 0 → Good fx x.memory × (length x.mixes ≡ 1920)
  unfolding whole_number
  good x t e =
      let m = x.memory in
      let bad = some (malformed (lane_length (length m.lanes))) m.records in
      let both = neither (lengths_number fx (lengths m) (length x.mixes)) (cond bad 7 0) e in
      let mixes = (fits fx (lengths m) (length x.mixes) both.0).1 in (
        record {
          fit = ap (lengths_number fx (lengths m)) (sym mixes) ∙ both.0;
          formed = (passed bad 6 0 both.1).0;
          typed = t;
        },
        mixes,
      )

-- ---- the recording's writes

module _ {A : Type 0} where
  length_stored : (l : List A) (ws : List (Write A)) → length (stored l ws) ≡ length l
  unfolding stored
  length_stored l [] = refl
  length_stored l (w ∷ ws) = length_stored (set l w.place w.value) ws ∙ length-set l w.place w.value

  same_stored : (a n : ℕ) (x y : List A) (ws : List (Write A)) → part a n x ≡ part a n y → part a n (stored x ws) ≡ part a n (stored y ws)
  unfolding stored
  same_stored a n x y [] e = e
  same_stored a n x y (w ∷ ws) e =
      same_stored a n (set x w.place w.value) (set y w.place w.value) ws (same_set a n w.place w.value x y e)

  every_stored : (f : A → Bool) (l : List A) (ws : List (Write A)) → every f l ≡ true → every (λ w. f w.value) ws ≡ true
      → every f (stored l ws) ≡ true
  unfolding stored
  every_stored f l [] t h = t
  every_stored f l (w ∷ ws) t h =
      let both = and_both (f w.value) (every (λ u. f u.value) ws) h in
      every_stored f (set l w.place w.value) ws (every_set f l w.place w.value t both.0) both.1

recorded_lengths : (f : Frame) (m : Memory) → lengths (recorded f m) ≡ lengths m
unfolding recorded lengths
recorded_lengths f m = λ i. record {
  region0 = length_stored m.region0 f.region0 i;
  region1 = length_stored m.region1 f.region1 i;
  window = length_stored m.window f.window i;
  records = length m.records;
  lanes = length_stored m.lanes f.lanes i;
}

pub good_recorded : (fx : Fixed) (f : Frame) (m : Memory) → TypedFrame f → Good fx m → Good fx (recorded f m)
unfolding recorded
good_recorded fx f m t g = record {
  fit = ap (λ s. lengths_number fx s 1920) (recorded_lengths f m) ∙ g.fit;
  formed = ap (λ n. some (malformed (lane_length n)) m.records) (length_stored m.lanes f.lanes) ∙ g.formed;
  typed = record {
    region0 = every_stored is_byte m.region0 f.region0 g.typed.region0 t.region0;
    region1 = every_stored is_byte m.region1 f.region1 g.typed.region1 t.region1;
    window = every_stored is_byte m.window f.window g.typed.window t.window;
    arrays = g.typed.arrays;
    records = g.typed.records;
    lanes = every_stored (signed 16) m.lanes f.lanes g.typed.lanes t.lanes;
  };
}

lane_recorded : (v : ℕ) (x y : List ℤ) (ws : List (Write ℤ)) → length x ≡ length y → lane_of v x ≡ lane_of v y
    → lane_of v (stored x ws) ≡ lane_of v (stored y ws)
lane_recorded v x y ws long same =
    let L = lane_length (length x) in
    lane_is v (stored x ws) L (ap lane_length (length_stored x ws))
    ∙ same_stored (v * L) L x y ws (parts_same v x y long same)
    ∙ sym (lane_is v (stored y ws) L (ap lane_length (length_stored y ws ∙ sym long)))

pub same_recorded : (l : Layout) (v : ℕ) (f : Frame) (a b : Memory) → Same l v a b → Same l v (recorded f a) (recorded f b)
unfolding recorded bytes_of
same_recorded l v f a b s = record {
  region0 = λ k. same_stored (place_of l v k).at (place_of l v k).size a.region0 b.region0 f.region0 (s.region0 k);
  region1 = λ k. same_stored (place_of l v k).at (place_of l v k).size a.region1 b.region1 f.region1 (s.region1 k);
  window = ap (λ r. stored r f.window) s.window;
  records = s.records;
  lanes = length_stored a.lanes f.lanes ∙ s.lanes ∙ sym (length_stored b.lanes f.lanes);
  voice = s.voice;
  lane = lane_recorded v a.lanes b.lanes f.lanes s.lanes s.lane;
}
