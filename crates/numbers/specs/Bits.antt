-- Floats as 32 bits in memory. Assumes nothing: these are definitions.
use Rattle.std.specs.Prelude.{ℕ, cond, from_bits, Float}
use Rattle.std.specs.Float.{binary32}
use Rattle.std.specs.Float.Ieee.Scale.{finite}
use Rattle.numbers.specs.Literals.{+0, +1}
use Rattle.numbers.specs.Tests.{is_rate}

-- a gain, or one of the mixer's volumes: "A gain not finite is 0.0"
unfoldable pub gain : ℕ → Float
gain bits = let x = from_bits binary32 bits in cond (finite x) x +0

-- a rate: "Rate not above 0 or not finite is 1.0"
unfoldable pub rate : ℕ → Float
rate bits = let x = from_bits binary32 bits in cond (is_rate x) x +1
