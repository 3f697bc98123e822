-- A case of document 01, "Checked by hand": a fade between gains so far apart that their difference is an infinity.
-- `proofs/Overflow.antt` proves it. Assumes nothing.
use Rattle.std.specs.Prelude.{◌≡◌, ℕ, ℤ, pos, Float}
use Rattle.numbers.specs.Bits.{gain}
use Rattle.mixing.specs.Gain.{fading}

-- the gains that the f32 nearest to -3e38 and to 3e38 give, by their bits
abbrev pub -3e38 : Float
-3e38 = gain 0xff61_b1e6

abbrev pub +3e38 : Float
+3e38 = gain 0x7f61_b1e6

-- "Fade from -3e38 to 3e38"
pub record FadeOverflows : Type 0 where
  -- "sample 0 adds 0, since infinity times 0 is not a number": the sample at i = 0, whatever it is, and a sample of 0 at any i
  pub first : (sample : ℤ) → fading -3e38 +3e38 0 sample ≡ pos 0
  pub still : (i : ℕ) → fading -3e38 +3e38 i (pos 0) ≡ pos 0
  -- "at i = 159 a sample of 1 adds 2147483647"
  pub last : fading -3e38 +3e38 159 (pos 1) ≡ pos 2147483647
