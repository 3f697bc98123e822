-- Whole numbers in so many bits: bits read as a signed number, a sum wrapped to 32 bits, a sample clamped to 16.
-- Assumes nothing: these are definitions.
use Rattle.std.specs.Prelude.{ℕ, suc, ◌-◌, ◌%◌, cond, ℤ, pos, negsuc, int_lt, nat_lt}

-- the remainder of z by m, from 0 to m - 1
abbrev pub mod_z : ℤ → ℕ → ℕ
mod_z (pos n) m = n % m
mod_z (negsuc n) m = m - suc (n % m)

-- 16 bits read as a signed number
abbrev pub signed16 : ℕ → ℤ
signed16 k = cond (nat_lt k 32768) (pos k) (negsuc (65535 - k))

-- 32 bits read as a signed number
abbrev pub signed32 : ℕ → ℤ
signed32 k = cond (nat_lt k 2147483648) (pos k) (negsuc (4294967295 - k))

-- "wrapped to 32 bits": the signed 32-bit number that differs from z by a multiple of 2 ^ 32
abbrev pub wrap32 : ℤ → ℤ
wrap32 z = signed32 (mod_z z 4294967296)

-- "clamp to 16 bits": z where 16 signed bits hold it, else the end of their range on its side
abbrev pub clamp16 : ℤ → ℤ
clamp16 z = cond (int_lt z (negsuc 32767)) (negsuc 32767) (cond (int_lt (pos 32767) z) (pos 32767) z)
