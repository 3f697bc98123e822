-- The sample between two, in f64: "every multiply, add and divide rounds once, in the source's order", then the program's own cast.
-- Assumes nothing: these are definitions.
use Rattle.std.specs.Prelude.{ℤ, Float}
use Rattle.numbers.specs.Casts.{cast_i16, double}
use Rattle.numbers.specs.Double.{◌⊕◌, ◌⊖◌, ◌⊗◌}

-- a + (b - a) times the fraction, which is not held below 1: "0 to 100 at 1.5, possible after lengthening: 150"
unfoldable pub interpolate : ℤ → ℤ → Float → ℤ
interpolate a b fraction = cast_i16 (double a ⊕ (double b ⊖ double a) ⊗ fraction)
