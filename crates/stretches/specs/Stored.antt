-- Samples stored one after the other in a frame, and what is stored. Only the contracts of quick functions cite these. Assumes nothing:
-- these are definitions.
use Rattle.std.specs.Prelude.{Bool, true, ◌&&◌, cond, List, ℕ, zero, suc, ◌+◌, ◌*◌, ℤ, pos, get_or, Float}
use Rattle.std.specs.Float.{nan}
use Rattle.std.specs.Float.Ieee.{eq}
use Rattle.numbers.specs.Literals.{+0}
use Rattle.samples.specs.Samples.{stereo_sample, both}
use Rattle.samples.specs.declared.Sample.{Sample}
use Rattle.steps.specs.declared.step.Cursor.{Cursor}
use Rattle.steps.specs.Stretch.{after}
use Rattle.track.specs.Track.{between_samples}
use Rattle.track.specs.Laid.{put}
use Rattle.track.specs.declared.Track.{Track}
use Rattle.voice.specs.declared.record.Entry.{Entry}
use Rattle.stretches.specs.Source.{sample_in, sound_by, sound_in}

-- a frame with the first n of some samples from `output` on
unfoldable pub stored : (ℕ → Sample) → ℕ → ℕ → List ℤ → List ℤ
stored samples output zero frame = frame
stored samples output (suc n) frame = put (stored samples output n frame) (output + n) (samples n)

-- the sample at a place of a frame
abbrev pub stored_at : List ℤ → ℕ → Sample
stored_at frame k = stereo_sample (get_or frame (k * 2) (pos 0)) (get_or frame (k * 2 + 1) (pos 0))

-- the sample between two, which at a fraction of 0 is the first
unfoldable pub blended : Sample → Sample → Float → Sample
blended a b fraction = cond (eq fraction +0) a (between_samples a b fraction)

-- each of the first n fractions is 0
unfoldable pub all_zero : List Float → ℕ → Bool
all_zero fractions zero = true
all_zero fractions (suc n) = all_zero fractions n && eq (get_or fractions n nan) +0

-- ---- what is stored at place i

-- the samples from one on
abbrev pub run_at : List ℤ → List ℕ → Entry → ℕ → ℕ → Sample
run_at lane bytes e first i = sample_in lane bytes e (first + i)

module _ (lane : List ℤ) (bytes : List ℕ) (e : Entry) (places : List ℕ) where
  -- the sample at the place noted, and the next
  abbrev pub here_at : ℕ → Sample
  here_at i = sample_in lane bytes e (get_or places i 0)

  abbrev pub next_at : ℕ → Sample
  next_at i = sample_in lane bytes e (get_or places i 0 + 1)

  -- the left values of both
  abbrev pub pair_at : ℕ → Sample
  pair_at i = stereo_sample (here_at i).left (next_at i).left

  -- what lies between them
  abbrev pub blended_at : List Float → ℕ → Sample
  blended_at fractions i = blended (here_at i) (next_at i) (get_or fractions i nan)

-- between the values of a pair
abbrev pub pair_blend : List ℤ → List Float → ℕ → Sample
pair_blend pairs fractions i = blended (both (stored_at pairs i).left) (both (stored_at pairs i).right) (get_or fractions i nan)

-- what an entry gives at the place and the fraction noted
abbrev pub noted_at : List ℤ → List ℕ → Entry → Track → List ℕ → List Float → ℕ → Sample
noted_at lane bytes e t places fractions i = sound_by (sample_in lane bytes e) t.plain (get_or places i 0) (get_or fractions i nan)

-- what it gives so many steps on
abbrev pub sound_after : List ℤ → List ℕ → Entry → Track → Cursor → ℕ → Sample
sound_after lane bytes e t c i = sound_in lane bytes e t (after t.rate i c)
