-- Remainders of whole numbers: that by 2 ^ 32 is below it, and the lower 16 bits of a 32-bit number are its remainder. Assumes nothing.
use Rattle.std.proofs.Common.{◌≡◌, ℕ, suc, ◌-◌, ◌%◌, ◌<◌, ℤ, pos, negsuc, refl, ◌∙◌, arith, w32, SFits, of_z}
use lib.Bits.{bit_and, and_mask}
use Rattle.numbers.specs.Wrap.{mod_z}

pub mod-lt : (v : ℤ) → mod_z v 4294967296 < 4294967296
mod-lt (pos n) = low n
  where
    low : (n : ℕ) → n % 4294967296 < 4294967296
    low n = omega arith
mod-lt (negsuc n) = low n
  where
    low : (n : ℕ) → 4294967296 - suc (n % 4294967296) < 4294967296
    low n = omega arith

low_mod32 : (v : ℤ) → SFits w32 v → of_z w32 v % 65536 ≡ mod_z v 65536
low_mod32 (pos n) h = refl
low_mod32 (negsuc n) h = turn n h.sfits
  where
    turn : (n : ℕ) → n < 2147483648 → (4294967296 - suc n) % 65536 ≡ 65536 - suc (n % 65536)
    turn n h = omega arith

pub low_is32 : (v : ℤ) → SFits w32 v → bit_and (of_z w32 v) 65535 ≡ mod_z v 65536
low_is32 v h = and_mask (of_z w32 v) 16 ∙ low_mod32 v h
