-- A served frame keeps what it must and leaves the record blank, and a refused one has number 20 or 21: by configuration, playing, filters
-- and blanks one after the other, and by the tests that give a number. Assumes nothing.
use mathlib.Core.Path.{◌≡◌, refl, subst}
use mathlib.Core.Bool.{Bool, true, false, cond}
use mathlib.Core.List.{List}
use mathlib.Core.Logic.{◌⊎◌, inl, inr}
use Prim.Native.Nat.{ℕ, ◌+◌}
use lib.Dec.{eqb, ltb}
use lib.IntN.{ℤ}
use lib.ListN.{length}
use Rattle.lists.specs.Some.{every}
use Rattle.lists.proofs.Bools.{clash, cond_either}
use Rattle.voice.specs.Blank.{limit}
use Rattle.voice.specs.Long.{any_too_long}
use Rattle.voice.specs.Malformed.{malformed, WellFormed}
use Rattle.voice.specs.Range.{signed, in_range, sized, InRange, Sized}
use Rattle.voice.specs.Tidy.{tidied}
use Rattle.voice.specs.declared.record.Entry.{Entry}
use Rattle.voice.specs.declared.record.Voice.{Voice}
use Rattle.voice.proofs.Formed.{not_malformed_formed, formed_not_malformed}
use Rattle.voice.proofs.Range.{test_in_range, in_range_test, test_sized, sized_test}
use Rattle.voice.proofs.Tidied.{tidied_blank}
use Rattle.settings.specs.Dirty.{dirty_in}
use Rattle.queueing.specs.Refusal.{refusal_of}
use Rattle.config.specs.Parsed.{settled, to_add, refusal, parsed, configured}
use Rattle.config.specs.Parsed.{Configured}
use Rattle.config_laws.proofs.Formed as set-formed
use Rattle.config_laws.proofs.Ranged as set-ranged
use Rattle.config_laws.proofs.Sized as set-sized
use Rattle.play.specs.Play.{played}
use Rattle.play_laws.proofs.Formed as play-formed
use Rattle.play_laws.proofs.Ranged as play-ranged
use Rattle.voice_frame.specs.VoiceFrame.{Fed, Given, served, refused, filtered, sounding, sounding_lane, left}
use Rattle.voice_frame.specs.VoiceFrame.{number, settled_voice, sounded_voice, given, voice_frame}
use Rattle.voice_frame.proofs.Bytes.{bytes_long}
use Rattle.voice_laws.specs.Laws.{Right, Kept, FrameKept, Left, FrameBlank, RefusedNumbers}
use Rattle.voice_laws.proofs.Numbers.{parts_32, parts_long, status_in, status_long, bytes_in}
use Rattle.voice_laws.proofs.Filtered.{filtered_formed, filtered_sized, filtered_range}
use Rattle.voice_laws.proofs.Left.{unmarked, left_formed, left_sized, left_range}

-- ---- a record on its way

-- a record with all that a frame asks of it, for a lane of L samples
record Whole (L : ℕ) (v : Voice) : Type 0 where
  formed : WellFormed L v
  arrays : Sized v
  range : InRange v

whole_of : (L : ℕ) (v : Voice) → malformed L v ≡ false → sized v ≡ true → in_range v ≡ true → Whole L v
whole_of L v m s r = record { formed = not_malformed_formed L v m; arrays = test_sized v s; range = test_in_range v r }

filtered_whole : (L produced : ℕ) (v : Voice) → Whole L v → Whole L (filtered produced v)
filtered_whole L produced v w = record {
  formed = filtered_formed produced v w.range L w.formed;
  arrays = filtered_sized produced v w.range w.arrays;
  range = filtered_range produced v w.range w.arrays;
}

left_whole : (L : ℕ) (v : Voice) → Whole L v → Whole L (left v)
left_whole L v w = record {
  formed = left_formed v L w.formed;
  arrays = left_sized v w.arrays;
  range = left_range v w.range;
}

module _ (f : Fed) (r : Right f) where
  abbrev L : ℕ
  L = length f.lane

  abbrev u : Voice
  u = settled_voice f

  settled_formed : malformed L u ≡ false
  settled_formed = set-formed.keeps_formed f.configuration f.coefficients f.voice L r.formed

  settled_sized : sized u ≡ true
  settled_sized = set-sized.keeps_sized f.configuration f.coefficients f.voice L r.arrays

  settled_range : in_range u ≡ true
  settled_range =
      set-ranged.keeps_range f.configuration f.coefficients f.voice L r.configuration_bytes r.coefficients_bytes r.range

  played_whole : Whole L (played f.window f.base u f.lane).voice
  played_whole =
      whole_of L (played f.window f.base u f.lane).voice
      (play-formed.keeps_formed f.window f.base u f.lane settled_formed settled_sized)
      (play-formed.keeps_sized f.window f.base u f.lane settled_formed settled_sized)
      (play-ranged.keeps_range f.window f.base u f.lane r.window_bytes r.lane_samples settled_range).voice

  sounded_whole : Whole L (sounded_voice f)
  unfolding sounding
  sounded_whole =
      let p = played f.window f.base u f.lane in
      cond_either (Whole L) u.enabled (filtered p.produced p.voice) u (filtered_whole L p.produced p.voice played_whole)
      (whole_of L u settled_formed settled_sized settled_range)

  lane_16 : every (signed 16) (sounding_lane f.window f.base u f.lane) ≡ true
  unfolding sounding_lane
  lane_16 =
      cond_either (λ (l : List ℤ). every (signed 16) l ≡ true) u.enabled (played f.window f.base u f.lane).lane f.lane
      (play-ranged.keeps_range f.window f.base u f.lane r.window_bytes r.lane_samples settled_range).lane
      r.lane_samples

  lane_long : length (sounding_lane f.window f.base u f.lane) ≡ L
  unfolding sounding_lane
  lane_long =
      cond_either (λ (l : List ℤ). length l ≡ L) u.enabled (played f.window f.base u f.lane).lane f.lane
      (play-formed.keeps_lane f.window f.base u f.lane settled_formed settled_sized) refl

-- ---- an answer

by_served : (b : Bool) (x g : Given) (n : ℕ) → cond b (served x) (refused n) ≡ served g → x ≡ g
by_served true x g n e = cc
by_served false x g n e = cc

by_refused : (b : Bool) (x : Given) (m n : ℕ) → cond b (served x) (refused m) ≡ refused n → (b ≡ false) × (m ≡ n)
by_refused true x m n e = (cc, cc)
by_refused false x m n e = (refl, cc)

-- a served frame gives what is given
is_given : (f : Fed) (g : Given) → voice_frame f ≡ served g → given f ≡ g
unfolding voice_frame
is_given f g e = by_served (eqb (number f) 0) (given f) g (number f) e

pub frame_kept : FrameKept
unfolding given
frame_kept f r g e =
    let L = length f.lane in
    let s = sounded_voice f in
    let w = left_whole L s (sounded_whole f r) in
    subst (λ (x : Given). Kept f x) (is_given f g e)
    (record {
      formed = formed_not_malformed L (left s) w.formed;
      arrays = sized_test (left s) w.arrays;
      range = in_range_test (left s) w.range;
      lane_samples = lane_16 f r;
      lane_length = lane_long f r;
      configuration_bytes = bytes_in f.configuration f.coefficients f.voice L r.configuration_bytes;
      configuration_length = bytes_long f.configuration f.coefficients f.voice L;
      status_bytes = status_in s (sounded_whole f r).range;
      status_length = status_long s;
      parts_numbers = parts_32 s;
      parts_length = parts_long s;
    })

pub frame_blank : FrameBlank
unfolding given left tidied
frame_blank f g e =
    subst (λ (x : Given). Left x.voice) (is_given f g e)
    (record { blank = tidied_blank (unmarked (sounded_voice f)); no_ramp = refl; no_update = refl })

-- ---- the numbers

-- of a number that is not 0
abbrev Among : ℕ → Type 0
Among n = eqb n 0 ≡ false → (n ≡ 20) ⊎ (n ≡ 21)

none_among : Among 0
none_among e = absurd (clash e)

refusal_among : (queued : ℕ) (entries : List Entry) (L : ℕ) → Among (refusal_of queued entries L)
unfolding refusal_of
refusal_among queued entries L =
    cond_either Among (ltb limit (queued + length entries)) 20 (cond (any_too_long L entries) 21 0) (λ e. inl refl)
    (cond_either Among (any_too_long L entries) 21 0 (λ e. inr refl) none_among)

number_among : (bytes coefficients : List ℕ) (v : Voice) (L : ℕ) → Among (configured bytes coefficients v L).number
unfolding configured refusal
number_among bytes coefficients v L =
    let P : Configured → Type 0 = λ (c : Configured). Among c.number in
    cond_either P (eqb (dirty_in bytes) 0) (record { number = 0; voice = v }) _ none_among
    (cond_either P (eqb (refusal bytes coefficients v L) 0) (record { number = 0; voice = parsed bytes coefficients v })
    (record { number = refusal bytes coefficients v L; voice = v }) none_among
    (refusal_among (settled bytes coefficients v).queued (to_add bytes coefficients v) L))

pub refused_numbers : RefusedNumbers
unfolding voice_frame
refused_numbers f n e =
    let both = by_refused (eqb (number f) 0) (given f) (number f) n e in
    subst (λ (m : ℕ). (m ≡ 20) ⊎ (m ≡ 21)) both.1
    (number_among f.configuration f.coefficients f.voice (length f.lane) both.0)
