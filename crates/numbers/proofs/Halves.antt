-- A whole number's nearest f32 from its two halves: each is a float exactly, and so is the upper one times 2 ^ 16, so only the sum rounds.
-- Assumes nothing.
use Rattle.std.proofs.Common.{◌≡◌, ℕ, suc, ◌-◌, ◌*◌, ◌/◌, ◌%◌, ◌^◌, ◌<◌, ◌≤◌, Bool, true, false, ◌&&◌, T, ltb, ℤ, pos, negsuc, nat_abs, sym}
use Rattle.std.proofs.Common.{refl, ap, ◌∙◌, lt_of_le_of_lt, mul-le-mul_right, zero-lt-suc, mul_assoc, div-add-mod', mul-one, arith, lit<}
use Rattle.std.proofs.Common.{le→leb, lt→ltb, le-ltb, lt-ltb}
use lib.Signed.{shr_z, mag}
use lib.Ieee.{Float, fin, binary32, round, unlike, sum, add, mul, of_int, in_float}
use lib.Ieee.Exact.{HasValue, round_exact}
use Rattle.lists.proofs.Bools.{cond_no}
use Rattle.numbers.specs.Wrap.{mod_z}
use Rattle.numbers.proofs.Value.{add_value, mul_value, int_value, below_0}

upper : (s : Bool) (a : ℕ) → a ≤ 32768 → HasValue (round binary32 s (a * 65536) 1) s (a * 65536) 1
upper s a h =
    round_exact binary32 s (a * 65536) 1 a 165 (zero-lt-suc 0) few (lt_of_le_of_lt most (lit< tt))
    (mul_assoc a 65536 (2 ^ 149) ∙ sym (mul-one (a * 2 ^ 165)))
  where
    few : a < 16777216
    few = omega arith

    most : a * 2 ^ 165 ≤ 32768 * 2 ^ 165
    most = mul-le-mul_right (2 ^ 165) h

summed :
    (z : ℤ) (l : ℕ) → nat_abs z ≤ 32768 → l < 65536
    → add binary32 (mul binary32 (of_int binary32 z) (fin false 1 (pos 16))) (of_int binary32 (pos l)) ≡ sum binary32 (below_0 z)
    (nat_abs z * 65536) false l 1
summed z l h k =
    ap (λ (x : Float). add binary32 x (of_int binary32 (pos l)))
    (mul_value binary32 (of_int binary32 z) (fin false 1 (pos 16)) (below_0 z) false (nat_abs z) 65536 1 1 (zero-lt-suc 0) (zero-lt-suc 0)
    (int_value binary32 z few) (refl, refl) ∙ ap (λ (s : Bool). round binary32 s (nat_abs z * 65536) 1) (sign (below_0 z)))
    ∙ add_value binary32 (round binary32 (below_0 z) (nat_abs z * 65536) 1) (of_int binary32 (pos l)) (below_0 z) false
    (nat_abs z * 65536) l 1 (zero-lt-suc 0) (upper (below_0 z) (nat_abs z) h) (int_value binary32 (pos l) less)
  where
    few : nat_abs z ≤ 16777216
    few = omega arith

    less : l ≤ 16777216
    less = omega arith

    sign : (s : Bool) → unlike s false ≡ s
    sign true = refl
    sign false = refl

whole_sum : (m : ℕ) → sum binary32 false (m / 65536 * 65536) false (m % 65536) 1 ≡ of_int binary32 (pos m)
unfolding sum of_int
whole_sum m = ap (λ (n : ℕ). round binary32 false n 1) (div-add-mod' m 65536)

apart : (a b m : ℕ) → b < a → a - b ≡ suc m → sum binary32 true a false b 1 ≡ of_int binary32 (negsuc m)
unfolding sum of_int
apart a b m less left =
    cond_no (round binary32 false (b - a) 1) (round binary32 (true && ltb b a) (a - b) 1) (le-ltb a b (omega arith))
    ∙ (λ i. round binary32 (lt-ltb b a less i) (left i) 1)

negative_sum : (m : ℕ) → sum binary32 true (suc (m / 65536) * 65536) false (65536 - suc (m % 65536)) 1 ≡ of_int binary32 (negsuc m)
negative_sum m = apart (suc (m / 65536) * 65536) (65536 - suc (m % 65536)) m (omega arith) (omega arith)

pub halves :
    (n : ℤ) → mag n < 2147483648 → add binary32 (mul binary32 (of_int binary32 (shr_z n 65536)) (fin false 1 (pos 16)))
    (of_int binary32 (pos (mod_z n 65536))) ≡ of_int binary32 n
halves (pos m) h = summed (pos (m / 65536)) (m % 65536) (omega arith) (omega arith) ∙ whole_sum m
halves (negsuc m) h = summed (negsuc (m / 65536)) (65536 - suc (m % 65536)) (omega arith) (omega arith) ∙ negative_sum m

pub upper_counted : (n : ℤ) → mag n < 2147483648 → T (in_float binary32 (shr_z n 65536))
unfolding in_float
upper_counted (pos m) h = le→leb (m / 65536) 16777216 (omega arith)
upper_counted (negsuc m) h = lt→ltb (m / 65536) 16777216 (omega arith)

pub lower_counted : (n : ℕ) → n < 65536 → T (in_float binary32 (pos n))
unfolding in_float
lower_counted n h = le→leb n 16777216 (omega arith)
