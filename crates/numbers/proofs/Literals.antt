-- The code's float literals, which it has by their bits, as the numbers they are: each is computed. Assumes nothing.
use Rattle.std.proofs.Common.{◌≡◌, true, false, pos, refl}
use lib.Ieee.{fin, binary32, binary64, of_bits, lt, is_nan}
use Rattle.numbers.specs.Literals.{+0, +1}
use Rattle.numbers.specs.Held.{top_u32}
use Rattle.numbers.specs.Tests.{is_fraction}

pub zero_32 : of_bits binary32 0 ≡ +0
unfolding of_bits
zero_32 = refl

pub zero_64 : of_bits binary64 0 ≡ +0
unfolding of_bits
zero_64 = refl

pub one_64 : of_bits binary64 0x3ff0_0000_0000_0000 ≡ +1
unfolding of_bits
one_64 = refl

-- 65536.0
pub two_to_16 : of_bits binary32 0x4780_0000 ≡ fin false 1 (pos 16)
unfolding of_bits
two_to_16 = refl

-- 4294967295.0
pub top_u32_is : of_bits binary64 0x41ef_ffff_ffe0_0000 ≡ top_u32
unfolding of_bits
top_u32_is = refl

-- 0.0 is a fraction
pub zero_fraction : is_fraction +0 ≡ true
unfolding is_fraction lt is_nan
zero_fraction = refl
