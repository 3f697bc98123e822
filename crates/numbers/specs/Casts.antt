-- Casts between floats and whole numbers, over the logic's IEEE 754 (`lib.Ieee`).
-- From f32 to f64 there is nothing to define: "f32 to f64 loses nothing", and one number is one `Float` in both formats.
-- Assumes nothing: these are definitions.
use Rattle.std.specs.Prelude.{ℕ, ℤ, Float}
use Rattle.std.specs.Float.{binary32, binary64}
use Rattle.std.specs.Float.Ieee.{of_int, to_signed, to_unsigned}

-- ---- "toward zero, saturating, not-a-number gives 0": the float's whole part where the type holds it, else the end of the type's
-- range on its side

-- to 32 bits with a sign: 31 bits and the sign
abbrev pub cast_i32 : Float → ℤ
cast_i32 x = to_signed 31 x

-- to 16 bits with a sign
abbrev pub cast_i16 : Float → ℤ
cast_i16 x = to_signed 15 x

-- to 32 bits with no sign
abbrev pub cast_u32 : Float → ℕ
cast_u32 x = to_unsigned 32 x

-- ---- "Whole number to f32 rounds to nearest, ties to even"
abbrev pub single : ℤ → Float
single n = of_int binary32 n

-- the same to f64, which holds every number of 32 bits
abbrev pub double : ℤ → Float
double n = of_int binary64 n
