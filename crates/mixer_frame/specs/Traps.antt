-- Document 01's first trap, "Summing the mixes before clamping", and beside it that the part of each mix is clamped by itself. Assumes
-- nothing: these are statements, and proofs/Traps.antt proves them of every frame.
use Rattle.std.specs.Prelude.{ℕ, ◌*◌, ◌<◌, ◌≡◌, List, ℤ, pos, negsuc, get_or}
use Rattle.layout.specs.declared.Layout.{Layout}
use Rattle.numbers.specs.Literals.{+1}
use Rattle.numbers.specs.Sizes.{FRAME_SAMPLES}
use Rattle.mixer_state.specs.State.{volume_of}
use Rattle.mixer_state.specs.declared.Mixer.{Mixer}
use Rattle.mixer_state.specs.declared.Output.TheVariants.{Stereo}
use Rattle.downmix.specs.Downmix.{value_at}
use Rattle.mixer_frame.specs.Frame.{heard, frame_of}

module _ (l : Layout) (s : Mixer) (read : List ℕ) (mixes : List ℤ) (i : ℕ) where
  -- of the left side's channels, 0 and 2, mix k has this value and 0 at sample i
  abbrev pub Holds : ℕ → ℤ → Type 0
  Holds k x = (value_at (heard l s read mixes k) 0 i ≡ x) × (value_at (heard l s read mixes k) 2 i ≡ pos 0)

  -- mixes 0, 1 and 2 have x, y and 0 there, each volume is 1.0, and the output is stereo
  pub record Hears (x y : ℤ) : Type 0 where
    pub sample : i < FRAME_SAMPLES
    pub first : Holds 0 x
    pub second : Holds 1 y
    pub third : Holds 2 (pos 0)
    pub loud : (k : ℕ) → k < 3 → volume_of s k ≡ +1
    pub stereo : s.output ≡ Stereo

  -- the left side of sample i in the frame
  abbrev pub left_at : ℤ
  left_at = get_or (frame_of l s read mixes) (i * 2) (pos 0)

  -- "40000 then -10000 must leave 22767, where sum-first leaves 30000"
  abbrev pub ClampedFirst : Type 0
  ClampedFirst = Hears (pos 40000) (negsuc 9999) → left_at ≡ pos 22767

  -- -20000 then 60000 leave 12767: the second part is 32767 before it is added
  abbrev pub ClampedAlone : Type 0
  ClampedAlone = Hears (negsuc 19999) (pos 60000) → left_at ≡ pos 12767
