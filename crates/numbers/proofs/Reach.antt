-- Bounds that rounding keeps: `Reach x c` says that x is finite and its size at most the whole number c. Assumes nothing.
use Rattle.std.proofs.Common.{◌≡◌, ℕ, suc, ◌+◌, ◌-◌, ◌*◌, ◌/◌, ◌^◌, ◌<◌, ◌≤◌, min, Bool, true, false, cond, ◌&&◌, ◌||◌, T, eqb, ltb, ℤ, pos}
use Rattle.std.proofs.Common.{negsuc, neg_ℤ, nat_abs, sym, ap, ◌∙◌, subst, true≢false, le_trans, le_of_eq, lt_of_lt_of_le, lt_of_le_of_lt}
use Rattle.std.proofs.Common.{mul-le-mul_right, zero-lt-suc, mul_assoc, mul_comm, add-mul, mul-le-mul, mul-lt-mul_of_pos_right, mul-pos}
use Rattle.std.proofs.Common.{one-mul, mul-one, mul_right_comm, le_of_mul-le-mul_right, arith, lit≤, eqb→eq, pow_pos, pow_mono, pow-add}
use mathlib.Core.Bool.{beq}
use native.Mathlib.Nat.{mul-mul-mul_comm}
use native.Mathlib.Nat.{div-le_of_le-mul}
use lib.Pow.{pow-lt}
use lib.Ieee.{Float, nan, inf, fin, Format, binary32, binary64, prec, emax, low, up, down, unlike, round, sum, add, mul, of_int, to_signed}
use lib.Ieee.{eq}
use lib.Ieee.Fits.{down_pos, and_l}
use lib.Ieee.Exact.{HasValue}
use lib.Ieee.Scale.{grid}
use Rattle.numbers.specs.Casts.{single}
use Rattle.numbers.specs.Literals.{+0}
use Rattle.numbers.proofs.Bounds.{abs_neg}
use Rattle.numbers.proofs.Cell.{cell_le, round_value}

abbrev pub Reach : Float → ℕ → Type 0
Reach nan c = ⊥
Reach (inf s) c = ⊥
Reach (fin s m e) c = m * up e ≤ c * down e

pub of_value : (x : Float) (s : Bool) (a k c : ℕ) → 0 < k → HasValue x s a k → a ≤ c * k → Reach x c
of_value nan s a k c K v h = v
of_value (inf t) s a k c K v h = v
of_value (fin t m e) s a k c K v h =
    le_of_mul-le-mul_right (le_trans (le_of_eq v.1) (le_trans (mul-le-mul_right (down e) h) (le_of_eq (mul_right_comm c k (down e))))) K

fine : (f : Format) → prec f + low f ≤ low f + suc (emax f)
fine binary32 = lit≤ tt
fine binary64 = lit≤ tt

pub round_reach : (f : Format) (s : Bool) (n d c : ℕ) → 0 < d → n ≤ c * d → c < 2 ^ prec f → Reach (round f s n d) c
round_reach f s n d c D h C =
    let l = 2 ^ low f in
    let wide : c * l < 2 ^ (prec f + low f) = rw (pow-add 2 (prec f) (low f)) (mul-lt-mul_of_pos_right C (pow_pos (low f))) in
    let up_to : n * l ≤ c * l * d = le_trans (mul-le-mul_right l h) (le_of_eq (mul_right_comm c d l)) in
    let small : n * l < 2 ^ (prec f + low f) * d = lt_of_le_of_lt up_to (mul-lt-mul_of_pos_right wide D) in
    let g : grid f n d ≤ c * l = cell_le f n d (low f) D small c up_to in
    of_value (round f s n d) s (grid f n d) l c (pow_pos (low f))
    (round_value f s n d (lt_of_le_of_lt g (lt_of_lt_of_le wide (pow_mono (fine f))))) g

-- ---- the operations
sum_reach : (f : Format) (s : Bool) (x : ℕ) (t : Bool) (y C c : ℕ) → 0 < C → x + y ≤ c * C → c < 2 ^ prec f → Reach (sum f s x t y C) c
unfolding sum
sum_reach f s x t y C c D h k = go (beq s t) (ltb x y)
  where
    go : (p q : Bool) → Reach (cond p (round f s (x + y) C) (cond q (round f t (y - x) C) (round f (s && ltb y x) (x - y) C))) c
    go true q = round_reach f s (x + y) C c D h k
    go false true = round_reach f t (y - x) C c D (omega arith) k
    go false false = round_reach f (s && ltb y x) (x - y) C c D (omega arith) k

pub add_reach : (f : Format) (x y : Float) (a b : ℕ) → Reach x a → Reach y b → a + b < 2 ^ prec f → Reach (add f x y) (a + b)
unfolding add
add_reach f nan y a b h k l = absurd h
add_reach f (inf s) y a b h k l = absurd h
add_reach f (fin s m e) nan a b h k l = absurd k
add_reach f (fin s m e) (inf t) a b h k l = absurd k
add_reach f (fin s m e) (fin t n d) a b h k l =
    sum_reach f s (m * up e * down d) t (n * up d * down e) (down e * down d) (a + b) (mul-pos (down_pos e) (down_pos d))
    (rw (add-mul a b (down e * down d)) (both (m * up e * down d) (n * up d * down e) (a * (down e * down d)) (b * (down e * down d))
    (le_trans (mul-le-mul_right (down d) h) (le_of_eq (mul_assoc a (down e) (down d))))
    (le_trans (mul-le-mul_right (down e) k)
    (le_of_eq (mul_assoc b (down d) (down e) ∙ ap (λ (z : ℕ). b * z) (mul_comm (down d) (down e)))))))
    l
  where
    both : (p q r s : ℕ) → p ≤ r → q ≤ s → p + q ≤ r + s
    both p q r s h k = omega arith

pub mul_reach : (f : Format) (x y : Float) (a b : ℕ) → Reach x a → Reach y b → a * b < 2 ^ prec f → Reach (mul f x y) (a * b)
unfolding mul
mul_reach f nan y a b h k l = absurd h
mul_reach f (inf s) y a b h k l = absurd h
mul_reach f (fin s m e) nan a b h k l = absurd k
mul_reach f (fin s m e) (inf t) a b h k l = absurd k
mul_reach f (fin s m e) (fin t n d) a b h k l =
    round_reach f (unlike s t) (m * up e * (n * up d)) (down e * down d) (a * b) (mul-pos (down_pos e) (down_pos d))
    (le_trans (mul-le-mul h k) (le_of_eq (mul-mul-mul_comm a (down e) b (down d)))) l

pub cast_reach : (h : ℕ) (x : Float) (c : ℕ) → Reach x c → nat_abs (to_signed h x) ≤ c
unfolding to_signed
cast_reach h nan c w = absurd w
cast_reach h (inf s) c w = absurd w
cast_reach h (fin s m e) c w = go s (div-le_of_le-mul (down e) (le_trans w (le_of_eq (mul_comm c (down e)))))
  where
    go :
        (b : Bool) → m * up e / down e ≤ c
        → nat_abs (cond b (neg_ℤ (pos (min (m * up e / down e) (2 ^ h)))) (pos (min (m * up e / down e) (2 ^ h - 1)))) ≤ c
    go true q = rw (abs_neg (min (m * up e / down e) (2 ^ h))) (omega arith)
    go false q = omega arith

-- ---- bounds that are a power of two, up to the format's largest
pub round_reach_pow : (f : Format) (s : Bool) (n d j : ℕ) → 0 < d → n ≤ 2 ^ j * d → j ≤ emax f → Reach (round f s n d) (2 ^ j)
round_reach_pow f s n d j D h J =
    let l = 2 ^ low f in
    let g = j + low f in
    let e : 2 ^ g ≡ 2 ^ j * l = pow-add 2 j (low f) in
    let up_to : n * l ≤ 1 * 2 ^ g * d = rw (one-mul (2 ^ g), e) (le_trans (mul-le-mul_right l h) (le_of_eq (mul_right_comm (2 ^ j) d l))) in
    let small : n * l < 2 ^ (prec f + g) * d = lt_of_le_of_lt up_to
    (mul-lt-mul_of_pos_right (rw (one-mul (2 ^ g)) (pow-lt (more f g))) D) in
    let c : grid f n d ≤ 2 ^ g = rw (one-mul (2 ^ g)) at (cell_le f n d g D small 1 up_to) in
    of_value (round f s n d) s (grid f n d) l (2 ^ j) (pow_pos (low f))
    (round_value f s n d (lt_of_le_of_lt c (pow-lt (fine (low f) j (emax f) J)))) (rw (sym e) c)
  where
    more : (f : Format) (g : ℕ) → g < prec f + g
    more binary32 g = omega arith
    more binary64 g = omega arith

    fine : (l j m : ℕ) → j ≤ m → j + l < l + suc m
    fine l j m h = omega arith

pub single_reach : (z : ℤ) → nat_abs z ≤ 2 ^ 31 → Reach (single z) (2 ^ 31)
unfolding of_int
single_reach (pos n) h = round_reach_pow binary32 false n 1 31 (zero-lt-suc 0) (le_trans h (le_of_eq (sym (mul-one (2 ^ 31))))) (lit≤ tt)
single_reach (negsuc n) h =
    round_reach_pow binary32 true (suc n) 1 31 (zero-lt-suc 0) (le_trans h (le_of_eq (sym (mul-one (2 ^ 31))))) (lit≤ tt)

-- ---- a gain that equals 0.0
pub zero_reach : (g : Float) → eq g +0 ≡ true → Reach g 0
unfolding eq
zero_reach nan h = absurd (true≢false (sym h))
zero_reach (inf s) h = absurd (true≢false (sym h))
zero_reach (fin s m e) h =
    tidy (m * up e) (down e) (eqb→eq (m * up e * 1) (0 * 1 * down e)
    (and_l (eqb (m * up e * 1) (0 * 1 * down e)) (beq s false || eqb (m * up e * 1) 0) (subst T (sym h) tt)))
  where
    tidy : (n d : ℕ) → n * 1 ≡ 0 * 1 * d → n ≤ 0 * d
    tidy n d h = omega arith

pub only_zero : (z : ℤ) → nat_abs z ≤ 0 → z ≡ pos 0
only_zero (pos n) h = ap pos (omega arith)
only_zero (negsuc n) h = absurd (none n h)
  where
    none : (n : ℕ) → suc n ≤ 0 → ⊥
    none n h = omega arith
