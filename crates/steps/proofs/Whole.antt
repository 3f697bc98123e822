-- Steps at rate 1.0 from a fraction of 0.0: one sample goes by, and the fraction stays 0.0. Assumes nothing.
use mathlib.Core.Path.{◌≡◌, refl, sym, ap, ◌∙◌, subst}
use mathlib.Core.Bool.{Bool, true, false, ◌&&◌, ◌||◌, beq, true≢false}
use Prim.Native.Nat.{ℕ, zero, suc, ◌+◌, ◌-◌, ◌*◌, ◌≤◌, ◌<◌, min}
use native.Mathlib.Nat.{zero-lt-suc}
use native.Mathlib.Omega.{arith}
use lib.IntN.{pos}
use lib.Dec.{T, eqb, eqb→eq}
use lib.Ieee.Fits.{and_l, and_r, down_pos}
use lib.Ieee.Back.{whole_unique}
use lib.Ieee.{Float, nan, inf, fin, up, down, fits, binary64, add, sub, sum, of_int, neg, lt, eq, to_unsigned}
use Rattle.numbers.specs.Casts.{cast_u32, double}
use Rattle.numbers.specs.Literals.{+0, +1}
use Rattle.numbers.specs.Held.{at_least_0}
use Rattle.numbers.proofs.Value.{add_value}
use Rattle.mixing.proofs.AtZero.{zero_value}
use Rattle.steps.specs.declared.step.Cursor.{Cursor}
use Rattle.steps.specs.Step.{moved, left, consumed}
use Rattle.steps.specs.Stretch.{after, Stretched}

one_fits : T (fits binary64 +1)
unfolding fits
one_fits = tt

one_from_zero : (s : Bool) → sum binary64 s 0 false 1 1 ≡ +1
unfolding sum
one_from_zero true = refl
one_from_zero false = refl

input_is : (f : Float) → eq f +0 ≡ true → add binary64 f +1 ≡ +1
input_is f e =
    let z = zero_value f e in
    add_value binary64 f +1 z.0 false 0 1 1 (zero-lt-suc 0) z.1 (refl, refl) ∙ one_from_zero z.0

one_is : cast_u32 +1 ≡ 1
unfolding to_unsigned
one_is = refl

none_left : at_least_0 (sub binary64 +1 (double (pos 1))) ≡ +0
unfolding sub of_int lt neg
none_left = refl

zero_is : eq +0 +0 ≡ true
unfolding eq
zero_is = refl

moved_plain :
    (c : Cursor) → eq c.fraction +0 ≡ true → 1 ≤ c.remaining → moved +1 c ≡ record { remaining = c.remaining - 1; fraction = +0 }
unfolding moved left consumed
moved_plain c e h =
    let k : min (cast_u32 (add binary64 c.fraction +1)) c.remaining ≡ 1 = ap (λ (x : Float). min (cast_u32 x) c.remaining)
    (input_is c.fraction e) ∙ ap (λ (n : ℕ). min n c.remaining) one_is ∙ (omega arith) in
    (λ i. record { remaining = c.remaining - k i; fraction = at_least_0 (sub binary64 (input_is c.fraction e i) (double (pos (k i)))) })
    ∙ (λ i. record { remaining = c.remaining - 1; fraction = none_left i })

pub after_plain :
    (n : ℕ) (c : Cursor) → eq c.fraction +0 ≡ true → n < c.remaining
    → after +1 (suc n) c ≡ record { remaining = c.remaining - suc n; fraction = +0 }
unfolding after
after_plain zero c e h = moved_plain c e (omega arith)
after_plain (suc n) c e h =
    let r : c.remaining - suc n - 1 ≡ c.remaining - suc (suc n) = omega arith in
    ap (moved +1) (after_plain n c e (omega arith))
    ∙ moved_plain (record { remaining = c.remaining - suc n; fraction = +0 }) zero_is (omega arith)
    ∙ (λ i. record { remaining = r i; fraction = +0 })

pub after_remaining : (n : ℕ) (c : Cursor) → eq c.fraction +0 ≡ true → n ≤ c.remaining → (after +1 n c).remaining ≡ c.remaining - n
unfolding after
after_remaining zero c e h = omega arith
after_remaining (suc n) c e h = ap (λ (d : Cursor). d.remaining) (after_plain n c e (omega arith))

pub after_zero : (n : ℕ) (c : Cursor) → eq c.fraction +0 ≡ true → n ≤ c.remaining → eq (after +1 n c).fraction +0 ≡ true
unfolding after
after_zero zero c e h = e
after_zero (suc n) c e h = ap (λ (d : Cursor). eq d.fraction +0) (after_plain n c e (omega arith)) ∙ zero_is

-- how far it came
pub after_some :
    (n : ℕ) (c : Cursor) → eq c.fraction +0 ≡ true → 0 < n → n ≤ c.remaining
    → after +1 n c ≡ record { remaining = c.remaining - n; fraction = +0 }
after_some zero c e p h = absurd (omega arith)
after_some (suc n) c e p h = after_plain n c e (omega arith)

inside_plain : (n : ℕ) (c : Cursor) → eq c.fraction +0 ≡ true → n + 1 < c.remaining → (j : ℕ) → j ≤ n → 1 < (after +1 j c).remaining
inside_plain n c e h j k = omega (arith, after_remaining j c e (omega arith))

pub none_reached :
    (c : Cursor) (room : ℕ) → eq c.fraction +0 ≡ true → 1 < c.remaining → Stretched +1 c room (record { cursor = c; count = 0 })
unfolding after
none_reached c room e h = record { count_most = omega arith; cursor_is = refl; inside = inside_plain 0 c e (omega arith) }

pub some_reached : (c : Cursor) (room n : ℕ) (f : Float) → eq c.fraction +0 ≡ true → f ≡ +0 → 0 < n → n ≤ room → n + 1 < c.remaining
    → Stretched +1 c room (record { cursor = record { remaining = c.remaining - n; fraction = f }; count = n })
some_reached c room n f e z p h k = record {
  count_most = h;
  cursor_is = (λ i. record { remaining = c.remaining - n; fraction = z i }) ∙ sym (after_some n c e p (omega arith));
  inside = inside_plain n c e k;
}

-- a float level with 1.0 is 1.0
pub one_unique : (r : Float) → T (fits binary64 r) → eq r +1 ≡ true → r ≡ +1
unfolding eq
one_unique nan f e = absurd (true≢false (sym e))
one_unique (inf s) f e = absurd (true≢false (sym e))
one_unique (fin s m k) f e =
    let t : T (eqb (m * up k * 1) (1 * 1 * down k) && (beq s false || eqb (m * up k * 1) 0)) = subst T (sym e) tt in
    let v = eqb→eq (m * up k * 1) (1 * 1 * down k) (and_l (eqb (m * up k * 1) (1 * 1 * down k)) _ t) in
    let p = down_pos k in
    whole_unique binary64 (fin s m k) +1 false 1 f one_fits
    (plus s (and_r (eqb (m * up k * 1) (1 * 1 * down k)) (beq s false || eqb (m * up k * 1) 0) t) (omega arith), v) (refl, refl)
  where
    plus : (s : Bool) → T (beq s false || eqb (m * up k * 1) 0) → 0 < m * up k * 1 → s ≡ false
    plus false t h = refl
    plus true t h =
        let z = eqb→eq (m * up k * 1) 0 t in
        absurd (omega arith)
