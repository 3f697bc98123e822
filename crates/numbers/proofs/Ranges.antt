-- What wrapping and clamping leave alone, and what they keep to: a number in range wraps to itself, and 16 bits hold what was clamped to
-- them. Assumes nothing.
use Rattle.std.proofs.Common.{◌≡◌, ℕ, suc, ◌-◌, ◌%◌, ◌<◌, ◌≤◌, Bool, true, false, cond, ℤ, pos, negsuc, refl, ap, ◌∙◌, arith, w16, w32}
use Rattle.std.proofs.Common.{SFits, ltb-false, le-ltb, lt-ltb}
use lib.Signed.{lt_z}
use mir.Facts.{sfits_lit}
use Rattle.lists.proofs.Bools.{cond_yes, cond_no}
use Rattle.numbers.specs.Wrap.{signed32, wrap32, clamp16}

-- a number in the range wraps to itself
pub wrap_self : (z : ℤ) → SFits w32 z → wrap32 z ≡ z
wrap_self (pos n) h = low n h.sfits
  where
    low : (n : ℕ) → n < 2147483648 → signed32 (n % 4294967296) ≡ pos n
    low n l = ap signed32 e ∙ cond_yes (pos n) (negsuc (4294967295 - n)) (lt-ltb n 2147483648 l)
      where
        e : n % 4294967296 ≡ n
        e = omega arith
wrap_self (negsuc n) h = high n h.sfits
  where
    high : (n : ℕ) → n < 2147483648 → signed32 (4294967296 - suc (n % 4294967296)) ≡ negsuc n
    high n l =
        ap signed32 e ∙ cond_no (pos (4294967295 - n)) (negsuc (4294967295 - (4294967295 - n))) (le-ltb (4294967295 - n) 2147483648 k)
        ∙ ap negsuc f
      where
        e : 4294967296 - suc (n % 4294967296) ≡ 4294967295 - n
        e = omega arith

        k : 2147483648 ≤ 4294967295 - n
        k = omega arith

        f : 4294967295 - (4294967295 - n) ≡ n
        f = omega arith

-- 16 bits hold what was clamped to them
pub clamp_fits : (z : ℤ) → SFits w16 (clamp16 z)
clamp_fits z = held z (lt_z z (negsuc 32767)) (lt_z (pos 32767) z) refl refl
  where
    held :
        (z : ℤ) (l h : Bool) → lt_z z (negsuc 32767) ≡ l → lt_z (pos 32767) z ≡ h → SFits w16 (cond l (negsuc 32767) (cond h (pos 32767) z))
    held z true h p q = sfits_lit tt
    held z false true p q = sfits_lit tt
    held (pos n) false false p q = record { sfits = in_range_lem (ltb-false 32767 n q) }
      where
        in_range_lem : n ≤ 32767 → n < 32768
        in_range_lem k = omega arith
    held (negsuc n) false false p q = record { sfits = in_range_lem (ltb-false 32767 n p) }
      where
        in_range_lem : n ≤ 32767 → n < 32768
        in_range_lem k = omega arith
