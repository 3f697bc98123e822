-- What a voice's frame adds to the mixes, which are "1,920 signed 32-bit numbers (by mix, then channel, then sample)".
-- Assumes nothing: these are definitions.
use Rattle.std.specs.Prelude.{◌≡◌, Bool, false, not, cond, ◌&&◌, List, ℕ, ◌+◌, ◌*◌, ◌/◌, ◌%◌, ◌≤◌, ◌<◌, length, Float, ℤ, pos, ◌+ℤ◌, get_or}
use Rattle.std.specs.Float.{nan}
use Rattle.std.specs.Float.Ieee.{eq, ne}
use Rattle.lists.specs.Tabulate.{tabulate}
use Rattle.numbers.specs.Sizes.{FRAME_SAMPLES, MIX, MIXES}
use Rattle.numbers.specs.Wrap.{wrap32}
use Rattle.numbers.specs.Casts.{single}
use Rattle.numbers.specs.Literals.{+0}
use Rattle.mixing.specs.Gain.{at_gain, progress, fading}

-- ---- value k of the mixes: its mix, which of the 12 gains is its own (there are four to a mix, one for each channel), and its sample
abbrev pub mix_of : ℕ → ℕ
mix_of k = k / MIX

abbrev pub gain_of : ℕ → ℕ
gain_of k = k / FRAME_SAMPLES

abbrev pub place_of : ℕ → ℕ
place_of k = k % FRAME_SAMPLES

-- the number in the frame that it takes: its sample's left one in channels 0 and 2, the right one in 1 and 3
abbrev pub sample_at : List ℤ → ℕ → ℤ
sample_at frame k = get_or frame (place_of k * 2 + gain_of k % 2) (pos 0)

-- ---- what it gets

-- "Where a voice has a ramp and its old gain differs from the new, it fades", "Otherwise its part is gain times sample":
-- the part of sample i, where `on` says that there is a ramp
abbrev pub part_of : Bool → Float → Float → ℕ → ℤ → ℤ
part_of on from to i sample = cond on (cond (ne from to) (fading from to i sample) (at_gain to sample)) (at_gain to sample)

-- the part of a voice with these marks of a ramp in each mix, old gains and new gains
-- (`nan` stands for a gain past the last, which no value asks for)
abbrev pub ramped_at : List Bool → List Float → List Float → List ℤ → ℕ → ℤ
ramped_at marks from to frame k =
    part_of (get_or marks (mix_of k) false) (get_or from (gain_of k) nan) (get_or to (gain_of k) nan) (place_of k) (sample_at frame k)

-- "Mix sums wrap"
abbrev pub summed : ℤ → ℤ → ℤ
summed value part = wrap32 (value +ℤ part)

-- the mixes with its part added to each value
unfoldable pub ramped : List Bool → List Float → List Float → List ℤ → List ℤ → List ℤ
ramped marks from to frame mixes = tabulate (λ k. summed (get_or mixes k (pos 0)) (ramped_at marks from to frame k)) MIXES

-- ---- on the way

-- whether a channel adds nothing, by its mark and gains: its gain is 0.0, and it does not fade
abbrev pub unheard : Bool → Float → Float → Bool
unheard on from to = eq to +0 && not (on && ne from to)

-- and by its number
abbrev pub unheard_at : List Bool → List Float → List Float → ℕ → Bool
unheard_at marks from to c = unheard (get_or marks (c / 4) false) (get_or from c nan) (get_or to c nan)

-- the left samples of a frame, or the right ones, as floats
unfoldable pub floats_of : List ℤ → ℕ → List Float
floats_of frame side = tabulate (λ i. single (get_or frame (i * 2 + side) (pos 0))) FRAME_SAMPLES

-- how far a fade is at each sample
unfoldable pub fade_steps : List Float
fade_steps = tabulate progress FRAME_SAMPLES

-- the values from `first` to before `past` have their parts added, and the others are as they were
pub record Summed (part : ℕ → ℤ) (first past : ℕ) (old new : List ℤ) : Type 0 where
  pub same : length new ≡ length old
  pub before : (k : ℕ) → k < first → get_or new k (pos 0) ≡ get_or old k (pos 0)
  pub done : (k : ℕ) → first ≤ k → k < past → k < length old → get_or new k (pos 0) ≡ summed (get_or old k (pos 0)) (part k)
  pub after : (k : ℕ) → past ≤ k → get_or new k (pos 0) ≡ get_or old k (pos 0)
