-- What a step leaves is a fraction, whatever it began with; and the larger of 0.0 and a number that a rounding left with no sign is that
-- number, so that it does not matter which zero the source's `max` picks. Assumes nothing.
use mathlib.Core.Path.{◌≡◌, refl, sym, ap, subst}
use mathlib.Core.Bool.{Bool, true, false, cond, true≢false}
use Prim.Native.Nat.{ℕ, zero, suc, ◌+◌, ◌*◌, ◌^◌, ◌<◌}
use native.Mathlib.Nat.{mul-pos, zero-lt-suc}
use native.Mathlib.Omega.{arith}
use lib.Dec.{T, ltb}
use lib.Ieee.{Float, nan, inf, fin, Format, prec, emax, low, up, down, odd, units, round, fits, lt, is_nan}
use borrow.Author.Tests.{lt-ltb, le-ltb}
use lib.Ieee.Fits.{round_is, up_pos}
use lib.Ieee.Back.{whole_unique}
use Rattle.numbers.specs.Literals.{+0}
use Rattle.numbers.specs.Held.{at_least_0}
use Rattle.numbers.specs.Tests.{is_fraction}
use Rattle.numbers.proofs.Literals.{zero_fraction}
use Rattle.steps.specs.declared.step.Cursor.{Cursor}
use Rattle.steps.specs.Step.{moved, left}

-- ---- a fraction
above_ok : (x : Float) → lt +0 x ≡ true → is_fraction x ≡ true
unfolding is_fraction lt is_nan
above_ok nan h = h
above_ok (inf true) h = h
above_ok (inf false) h = refl
above_ok (fin true m e) h = absurd (true≢false (sym h))
above_ok (fin false m e) h = rw (le-ltb (m * up e * 1) (0 * 1 * down e) (omega arith))

pub at_least_0_ok : (x : Float) → is_fraction (at_least_0 x) ≡ true
at_least_0_ok x = go (lt +0 x) refl
  where
    go : (b : Bool) → lt +0 x ≡ b → is_fraction (cond b x +0) ≡ true
    go true h = above_ok x h
    go false h = zero_fraction

pub moved_ok : (rate : Float) (c : Cursor) → is_fraction (moved rate c).fraction ≡ true
unfolding moved left
moved_ok rate c = at_least_0_ok _

-- ---- the larger of it and 0.0
zero_fits : (f : Format) → T (fits f +0)
unfolding fits
zero_fits f = tt

-- an infinity or a number, with the sign clear
abbrev Plus : Float → Type 0
Plus nan = ⊥
Plus (inf s) = s ≡ false
Plus (fin s m e) = s ≡ false

odd_plus : (d q k l : ℕ) → Plus (odd d false q k l)
unfolding odd
odd_plus d zero k l = refl
odd_plus d (suc q) k l = refl

units_plus : (f : Format) (q k : ℕ) → Plus (units f false q k)
unfolding units
units_plus f q k = go (ltb (q * 2 ^ k) (2 ^ (low f + suc (emax f))))
  where
    go : (b : Bool) → Plus (cond b (odd (suc (prec f)) false q k (low f)) (inf false))
    go true = odd_plus (suc (prec f)) q k (low f)
    go false = refl

pub round_plus : (f : Format) (n d : ℕ) → Plus (round f false n d)
round_plus f n d = rw round_is (units_plus f _ _)

over : (n u d : ℕ) → 0 < n → 0 < u → 0 * 1 * d < n * u * 1
over n u d N U =
    let h : 0 < n * u = mul-pos N U in
    omega arith

pub kept : (f : Format) (x : Float) → Plus x → T (fits f x) → at_least_0 x ≡ x
unfolding lt
kept f nan p F = absurd p
kept f (inf s) p F = rw p
kept f (fin true m e) p F = absurd (true≢false p)
kept f (fin false zero e) p F =
    let is : fin false 0 e ≡ +0 = whole_unique f (fin false 0 e) +0 false 0 F (zero_fits f) (refl, none (up e) (down e)) (refl, refl) in
    subst (λ (x : Float). at_least_0 x ≡ x) (sym is) refl
  where
    none : (u d : ℕ) → 0 * u * 1 ≡ 0 * d
    none u d = omega arith
kept f (fin false (suc m) e) p F =
    ap (λ (b : Bool). cond b (fin false (suc m) e) +0)
    (lt-ltb (0 * 1 * down e) (suc m * up e * 1) (over (suc m) (up e) (down e) (zero-lt-suc m) (up_pos e)))
