-- A sample at a place of a source's entry is among what is held of it. Assumes nothing.
use Rattle.std.proofs.Common.{◌≡◌, refl, Bool, true, false, ℕ, ◌+◌, ◌*◌, ◌≤◌, ◌<◌, List, subst, arith}
use native.Mathlib.Nat.{mul-le-mul, le_trans}
use Rattle.numbers.specs.Wrap.{signed16}
use Rattle.little.specs.Little.{at16}
use Rattle.samples.specs.Samples.{stereo_sample}
use Rattle.voice.specs.declared.record.Format.{Format}
use Rattle.stretches.specs.Source.{size8, size16, size_by, size_of, held_by, valued_in, pcm16_in}
use Rattle.stretches.specs.declared.source.Source.{Source}

module _ (s : Source) (place : ℕ) (h : place < s.played.length) where
  among : (place + 1) * size_by s.played.format s.played.stereo ≤ held_by s.lane.now s.bytes.now s.played.format
  unfolding size_of
  among =
      let next : place + 1 ≤ s.played.length = omega arith in
      let same : size_by s.played.format s.played.stereo ≤ size_by s.played.format s.played.stereo = omega arith in
      le_trans (mul-le-mul next same) s.holds

  -- of the format that it is
  pub among_by : (f : Format) → s.played.format ≡ f → (place + 1) * size_by f s.played.stereo ≤ held_by s.lane.now s.bytes.now f
  among_by f is = subst (λ (f : Format). (place + 1) * size_by f s.played.stereo ≤ held_by s.lane.now s.bytes.now f) is among

-- a value of 16 bits has two bytes for each of 8
pub value_among : (stereo : Bool) (place k : ℕ) → k < (place + 1) * size8 stereo → k * 2 + 2 ≤ (place + 1) * size16 stereo
value_among true place k h = omega arith
value_among false place k h = omega arith

pub values_of16 : (bytes : List ℕ) (stereo : Bool) (place : ℕ)
    → valued_in (λ k. signed16 (at16 bytes (k * 2))) stereo place ≡ pcm16_in bytes stereo place
values_of16 bytes true place =
    let left : place * 2 * 2 ≡ place * 4 = omega arith in
    let right : (place * 2 + 1) * 2 ≡ place * 4 + 2 = omega arith in
    λ i. stereo_sample (signed16 (at16 bytes (left i))) (signed16 (at16 bytes (right i)))
values_of16 bytes false place = refl

-- a place is below how many values are held
pub place_below : (stereo : Bool) (place n : ℕ) → (place + 1) * size8 stereo ≤ n → place < n
place_below true place n h = omega arith
place_below false place n h = omega arith

pub place_below16 : (stereo : Bool) (place n : ℕ) → (place + 1) * size16 stereo ≤ n → place < n
place_below16 true place n h = omega arith
place_below16 false place n h = omega arith
