-- At a fraction of 0.0, of either sign, what is between two samples is the first: so the source's test for it may be left out. Assumes
-- nothing.
use mathlib.Core.Path.{◌≡◌, refl, sym, ap, ◌∙◌, subst}
use mathlib.Core.Bool.{Bool, true, false, not, ◌&&◌, cond}
use Prim.Native.Nat.{ℕ, suc, ◌+◌, ◌-◌, ◌*◌, ◌^◌, ◌≤◌, ◌<◌}
use native.Mathlib.Nat.{mul-zero, zero-lt-suc}
use native.Mathlib.Omega.{arith}
use lib.IntN.{ℤ, pos, negsuc, nat_abs}
use lib.Signed.{mag, nat_abs-le}
use lib.Dec.{T, ltb, eqb, eqb→eq}
use borrow.Author.Tests.{lt-ltb, le-ltb}
use lib.Ieee.{Float, nan, inf, fin, Format, binary64, prec, up, down, round, unlike, sum, sub, mul, of_int, eq}
use lib.Ieee.Fits.{and_l}
use lib.Ieee.Exact.{HasValue}
use lib.Ieee.Back.{round_whole}
use Rattle.lists.proofs.Bools.{cond_no}
use Rattle.numbers.specs.Casts.{cast_i16, double}
use Rattle.numbers.specs.Literals.{+0}
use Rattle.numbers.specs.Reals.{shape_64}
use Rattle.numbers.proofs.Value.{add_value, sub_value, mul_value, int_value, below_0}
use Rattle.numbers.proofs.Holding.{signed_back}
use Rattle.mixing.specs.Interpolate.{interpolate}

-- a sum of whole numbers has some whole value
abbrev Whole : Float → Type 0
Whole x = (s : Bool) × (n : ℕ) × HasValue x s n 1

sum_whole : (f : Format) (s : Bool) (a : ℕ) (t : Bool) (b : ℕ) → a + b ≤ 2 ^ prec f → Whole (sum f s a t b 1)
unfolding sum
sum_whole f false a false b h = (false, a + b, round_whole f false (a + b) h)
sum_whole f true a true b h = (true, a + b, round_whole f true (a + b) h)
sum_whole f false a true b h = go (ltb a b)
  where
    go : (c : Bool) → Whole (cond c (round f true (b - a) 1) (round f (false && ltb b a) (a - b) 1))
    go true = (true, b - a, round_whole f true (b - a) (omega arith))
    go false = (false, a - b, round_whole f false (a - b) (omega arith))
sum_whole f true a false b h = go (ltb a b)
  where
    go : (c : Bool) → Whole (cond c (round f false (b - a) 1) (round f (true && ltb b a) (a - b) 1))
    go true = (false, b - a, round_whole f false (b - a) (omega arith))
    go false = (ltb b a, a - b, round_whole f (ltb b a) (a - b) (omega arith))

-- 0 added to a whole number leaves it
less_zero : (n : ℕ) → n - 0 ≡ n
less_zero n = omega arith

more_zero : (n : ℕ) → n + 0 ≡ n
more_zero n = omega arith

sum_zero : (f : Format) (z : ℤ) (u : Bool) → sum f (below_0 z) (nat_abs z) u 0 1 ≡ of_int f z
unfolding sum of_int
sum_zero f (pos n) false = ap (λ (k : ℕ). round f false k 1) (more_zero n)
sum_zero f (pos n) true =
    cond_no (round f true (0 - n) 1) (round f false (n - 0) 1) (le-ltb n 0 (omega arith)) ∙ ap (λ (k : ℕ). round f false k 1) (less_zero n)
sum_zero f (negsuc n) true = ap (λ (k : ℕ). round f true k 1) (more_zero (suc n))
sum_zero f (negsuc n) false =
    cond_no (round f false (0 - suc n) 1) (round f (true && ltb 0 (suc n)) (suc n - 0) 1) (le-ltb (suc n) 0 (omega arith))
    ∙ (λ i. round f (lt-ltb 0 (suc n) (zero-lt-suc n) i) (less_zero (suc n) i) 1)

-- a float that is level with 0.0
pub zero_value : (t : Float) → eq t +0 ≡ true → (u : Bool) × HasValue t u 0 1
unfolding eq
zero_value nan e = absurd (subst T (sym e) tt)
zero_value (inf s) e = absurd (subst T (sym e) tt)
zero_value (fin s m k) e =
    let z : m * up k * 1 ≡ 0 * 1 * down k = eqb→eq (m * up k * 1) (0 * 1 * down k)
    (and_l (eqb (m * up k * 1) (0 * 1 * down k)) _ (subst T (sym e) tt)) in
    (s, (refl, z))

product_zero : (d t : Float) → Whole d → (u : Bool) × HasValue t u 0 1 → (v : Bool) × HasValue (mul binary64 d t) v 0 1
product_zero d t w z =
    let u = unlike w.0 z.0 in
    let e = mul_value binary64 d t w.0 z.0 w.1 0 1 1 (zero-lt-suc 0) (zero-lt-suc 0) w.2 z.1
    ∙ ap (λ (k : ℕ). round binary64 u k 1) (mul-zero w.1) in
    (u, subst (λ (x : Float). HasValue x u 0 1) (sym e) (round_whole binary64 u 0 (omega arith)))

few : (z : ℤ) → mag z < 32768 → nat_abs z ≤ 32768
few z h = nat_abs-le z h

pub interpolate_at_zero : (a b : ℤ) (t : Float) → mag a < 32768 → mag b < 32768 → eq t +0 ≡ true → interpolate a b t ≡ a
unfolding interpolate
interpolate_at_zero a b t ha hb e =
    let na = few a ha in
    let nb = few b hb in
    let va = int_value binary64 a (omega arith) in
    let vb = int_value binary64 b (omega arith) in
    let d = sub_value binary64 (double b) (double a) (below_0 b) (below_0 a) (nat_abs b) (nat_abs a) 1 (zero-lt-suc 0) vb va in
    let w : Whole (sub binary64 (double b) (double a)) = subst Whole (sym d)
    (sum_whole binary64 (below_0 b) (nat_abs b) (not (below_0 a)) (nat_abs a) (omega arith)) in
    let p = product_zero (sub binary64 (double b) (double a)) t w (zero_value t e) in
    ap cast_i16 (add_value binary64 (double a) (mul binary64 (sub binary64 (double b) (double a)) t) (below_0 a) p.0 (nat_abs a) 0 1
    (zero-lt-suc 0) va p.1 ∙ sum_zero binary64 a p.0)
    ∙ (signed_back shape_64 a ha).1
