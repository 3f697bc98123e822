-- f32's four operations, written between their operands. Each is IEEE 754's own and "rounds once", to binary32.
-- `Double` has the same signs for f64, so a file uses one of the two. Assumes nothing: these are definitions.
use Rattle.std.specs.Prelude.{Float}
use Rattle.std.specs.Float.{binary32}
use Rattle.std.specs.Float.Ieee.{add, sub, mul, div}

infixl 65 ◌⊕◌
abbrev pub ◌⊕◌ : Float → Float → Float
x ⊕ y = add binary32 x y

infixl 65 ◌⊖◌
abbrev pub ◌⊖◌ : Float → Float → Float
x ⊖ y = sub binary32 x y

infixl 70 ◌⊗◌
abbrev pub ◌⊗◌ : Float → Float → Float
x ⊗ y = mul binary32 x y

infixl 70 ◌⊘◌
abbrev pub ◌⊘◌ : Float → Float → Float
x ⊘ y = div binary32 x y
