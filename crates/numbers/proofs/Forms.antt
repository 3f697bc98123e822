-- The tests of a float as the code makes them, and as other laws of floats take them, are the tests defined: shown by the kinds of float.
-- Assumes nothing.
use Rattle.std.proofs.Common.{◌≡◌, ℕ, zero, suc, ◌+◌, ◌*◌, Bool, true, false, not, ◌&&◌, ◌||◌, T, eqb, ltb, ℤ, sym, refl, subst, true≢false}
use Rattle.std.proofs.Common.{zero-lt-suc, arith, eqb→eq, le-ltb, lt-ltb, ne_eqb}
use lib.Ieee.{Float, nan, inf, fin, up, down, lt, le, eq, is_nan}
use Rattle.std.specs.Float.{float_is_finite}
use lib.Ieee.Fits.{and_l}
use lib.Ieee.Scale.{finite}
use Rattle.numbers.specs.Literals.{+0}
use Rattle.numbers.specs.Tests.{is_fraction}

-- ---- finite, as std has it
pub finite_is : (x : Float) → float_is_finite x ≡ finite x
unfolding float_is_finite
finite_is nan = refl
finite_is (inf s) = refl
finite_is (fin s m e) = refl

-- ---- a fraction: 0 or above, where -0 is not below 0
zed : (d : ℕ) → 0 * 1 * d ≡ 0
zed d = omega arith

at_or_above : (n : ℕ) → (ltb 0 n || (eqb 0 n && true)) ≡ true
at_or_above zero = refl
at_or_above (suc n) = rw (lt-ltb 0 (suc n) (zero-lt-suc n))

minus : (n : ℕ) → (eqb 0 n && true) ≡ not (ltb 0 (n + 0) || false)
minus zero = refl
minus (suc n) = rw (lt-ltb 0 (suc n + 0) (omega arith), ne_eqb 0 (suc n) (λ e. omega arith))

-- as the code tests it
pub fraction_form : (x : Float) → le +0 x ≡ is_fraction x
unfolding is_fraction le lt eq is_nan
fraction_form nan = refl
fraction_form (inf true) = refl
fraction_form (inf false) = refl
fraction_form (fin true m e) = rw (zed (down e)) (minus (m * up e * 1))
fraction_form (fin false m e) = rw (zed (down e), at_or_above (m * up e * 1), le-ltb (m * up e * 1) 0 (omega arith))

-- a number that passes it has no sign, or is a zero
pub plus_or_zero : (s : Bool) (m : ℕ) (e : ℤ) → le +0 (fin s m e) ≡ true → s ≡ true → m * up e ≡ 0
unfolding le lt eq
plus_or_zero false m e h t = absurd (true≢false (sym t))
plus_or_zero true m e h t =
    tidy (m * up e) (down e) (eqb→eq (0 * 1 * down e) (m * up e * 1)
    (and_l (eqb (0 * 1 * down e) (m * up e * 1)) (eqb (0 * 1 * down e) 0) (subst T (sym h) tt)))
  where
    tidy : (p q : ℕ) → 0 * 1 * q ≡ p * 1 → p ≡ 0
    tidy p q h = omega arith
