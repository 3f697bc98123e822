-- A step from a fraction below 1 at a rate below 2 ^ 31: its sum is no less than the rate's whole part w, so its own whole part is w or w +
-- 1, as the test against w + 1 says, where what is left of it is below 1. Assumes nothing.
use mathlib.Core.Path.{◌≡◌, refl, sym, ap, ◌∙◌, subst}
use mathlib.Core.Bool.{Bool, true, false, ◌&&◌, cond, true≢false}
use mathlib.Core.Logic.{⊎_elim}
use Prim.Native.Nat.{ℕ, ◌+◌, ◌-◌, ◌*◌, ◌/◌, ◌^◌, ◌≤◌, ◌<◌, min}
use native.Mathlib.Nat.{le_trans, le_of_eq, lt_of_lt_of_le, lt_of_le_of_lt, one-mul, mul_comm, mul_assoc, mul_right_comm, mul-pos}
use native.Mathlib.Nat.{mul-le-mul_right, mul-lt-mul_of_pos_right, le_of_mul-le-mul_right, lt_of_mul-lt-mul_right, le-div_iff_mul-le}
use native.Mathlib.Nat.{div-lt_iff_lt-mul, div-mul-le_self, zero-lt-suc, zero-mul, add-mul, le_of_lt}
use native.Mathlib.Omega.{arith}
use lib.IntN.{ℤ, pos}
use lib.Dec.{ltb, le→leb, lit<}
use lib.Pow.{pow_pos, pow-add}
use borrow.Author.Tests.{le-ltb, ltb-true, ltb-false}
use lib.Ieee.{Float, nan, inf, fin, binary64, low, up, down, round, sum, add, sub, of_int, lt, le, eq, to_unsigned, in_float}
use lib.Ieee.Fits.{down_pos, round-fits}
use lib.Ieee.Casts.{to_unsigned-lt}
use lib.Ieee.Exact.{HasValue}
use lib.Ieee.Back.{unsigned_back}
use lib.Ieee.Scale.{grid}
use Rattle.lists.proofs.Bools.{and_both}
use Rattle.lists.proofs.Walk.{below_or}
use Rattle.numbers.specs.Literals.{+0, +1}
use Rattle.numbers.specs.Held.{at_least_0, whole_of}
use Rattle.numbers.specs.Casts.{cast_u32, double}
use Rattle.numbers.proofs.Forms.{plus_or_zero}
use Rattle.numbers.proofs.Cell.{cell_le, cell_ge, round_value}
use Rattle.numbers.proofs.Value.{add_value, sub_value, over}
use Rattle.numbers.proofs.Floor.{times_lt, times_le, times_ge, scaled_less, lt_is, whole_value}
use Rattle.steps.proofs.Kept.{kept, round_plus}
use Rattle.steps.specs.declared.step.Cursor.{Cursor}
use Rattle.steps.specs.Steady.{Part, Slow, is_part, is_slow, steady, quick_way}

abbrev L : ℕ
L = 2 ^ low binary64

-- ---- tests and casts by a value
lt_value : (x y : Float) (G k : ℕ) → HasValue x false G L → HasValue y false k 1 → lt x y ≡ ltb G (k * L)
lt_value nan y G k h v = absurd h
lt_value (inf s) y G k h v = absurd h
lt_value (fin s m e) y G k h v =
    lt_is s m e y k v (λ u. absurd (true≢false (sym u ∙ h.0)))
    ∙ sym (scaled_less (m * up e) (k * down e) L (pow_pos (low binary64)))
    ∙ (λ i. ltb (h.1 i) (mul_right_comm k (down e) L i))
    ∙ scaled_less G (k * L) (down e) (down_pos e)

cast_value : (x : Float) (G W : ℕ) → HasValue x false G L → W * L ≤ G → G < (W + 1) * L → W < 4294967296 → to_unsigned 32 x ≡ W
unfolding to_unsigned
cast_value nan G W h a b c = absurd h
cast_value (inf s) G W h a b c = absurd h
cast_value (fin s m e) G W h a b c = rw h.0 least
  where
    p : ℕ
    p = m * up e

    q : ℕ
    q = down e

    above : W * q ≤ p
    above =
        le_of_mul-le-mul_right (le_trans (le_of_eq (mul_right_comm W q L)) (le_trans (mul-le-mul_right q a) (le_of_eq (sym h.1))))
        (pow_pos (low binary64))

    below : p < (W + 1) * q
    below =
        lt_of_mul-lt-mul_right L (lt_of_le_of_lt (le_of_eq h.1)
        (lt_of_lt_of_le (mul-lt-mul_of_pos_right b (down_pos e)) (le_of_eq (mul_right_comm (W + 1) L q))))

    one : W ≤ p / q
    one = (le-div_iff_mul-le (down_pos e)).1 above

    two : p / q < W + 1
    two = (div-lt_iff_lt-mul (down_pos e)).1 below

    least : min (p / q) 4294967295 ≡ W
    least = omega (arith, one, two, c)

part_value : (x : Float) (G : ℕ) → HasValue x false G L → lt x +1 ≡ true → Part x
part_value nan G h t = absurd h
part_value (inf s) G h t = absurd h
part_value (fin s m e) G h t =
    let k = ltb-true (m * up e) (1 * down e) (sym (lt_is s m e +1 1 (refl, refl) (λ u. absurd (true≢false (sym u ∙ h.0)))) ∙ t) in
    ((λ u. absurd (true≢false (sym u ∙ h.0))), omega arith)

-- ---- n / d rounded, below 2 ^ 32
module _ (n d : ℕ) (D : 0 < d) (few : n ≤ 4294967296 * d) where
  room : n * L < 2 ^ (53 + 1074) * d
  room = subst (λ (x : ℕ). n * L < x * d) (sym (pow-add 2 53 1074)) (times_lt n (2 ^ 53) d L (pow_pos (low binary64)) less)
    where
      less : n < 9007199254740992 * d
      less = omega arith

  at_least : (k : ℕ) → k * d ≤ n → k * L ≤ grid binary64 n d
  at_least k h = cell_ge binary64 n d 1074 D room k (times_ge n k d L h)

  at_most : grid binary64 n d ≤ 4294967296 * L
  at_most = cell_le binary64 n d 1074 D room 4294967296 (times_le n 4294967296 d L few)

  value : HasValue (round binary64 false n d) false (grid binary64 n d) L
  value =
      round_value binary64 false n d
      (lt_of_le_of_lt at_most (subst (λ (x : ℕ). 4294967296 * L < x) (mul_comm (2 ^ 1024) L ∙ sym (pow-add 2 1074 1024))
      (mul-lt-mul_of_pos_right far (pow_pos (low binary64)))))
    where
      far : 4294967296 < 2 ^ 1024
      far = lit< tt

cut_le : (g w : ℕ) → g - w ≤ g
cut_le g w = omega arith

cut_under : (g w l : ℕ) → w ≤ g → g - w < l → g < w + l
cut_under g w l a b = omega arith

off : (k j d : ℕ) → j ≤ k → sum binary64 false k true j d ≡ round binary64 false (k - j) d
unfolding sum
off k j d h = rw (le-ltb k j h)

-- ---- what is left of x where a whole number W no larger is taken off: x's whole part is W where that is below 1
module _ (x : Float) (G W : ℕ) (v : HasValue x false G L) (few : G ≤ 4294967296 * L) (small : W < 4294967296) (under : W * L ≤ G) where
  left_is : sub binary64 x (double (pos W)) ≡ round binary64 false (G - W * L) L
  left_is =
      sub_value binary64 x (double (pos W)) false false G (W * L) L (pow_pos (low binary64)) v
      (subst (λ (c : ℕ). HasValue (double (pos W)) false (W * L) c) (one-mul L)
      (over (double (pos W)) false W 1 L (whole_value binary64 W (omega arith))))
      ∙ off G (W * L) L under

  abbrev rest : ℕ
  rest = G - W * L

  rest_few : rest ≤ 4294967296 * L
  rest_few = le_trans (cut_le G (W * L)) few

  rest_value : HasValue (round binary64 false rest L) false (grid binary64 rest L) L
  rest_value = value rest L (pow_pos (low binary64)) rest_few

  module _ (t : lt (sub binary64 x (double (pos W))) +1 ≡ true) where
    t' : lt (round binary64 false rest L) +1 ≡ true
    t' = ap (λ (y : Float). lt y +1) (sym left_is) ∙ t

    below : rest < L
    below =
        ⊎_elim (λ h. h) (λ h. absurd (true≢false
        (sym t' ∙ lt_value (round binary64 false rest L) +1 (grid binary64 rest L) 1 rest_value (refl, refl)
        ∙ le-ltb (grid binary64 rest L) (1 * L) (at_least rest L (pow_pos (low binary64)) rest_few 1 (le_trans (le_of_eq (one-mul L)) h)))))
        (below_or rest L)

    next : G < (W + 1) * L
    next = rw (add-mul W 1 L, one-mul L) (cut_under G (W * L) L under below)

    pub whole_is : cast_u32 x ≡ W
    whole_is = cast_value x G W v under next small

    pub left_kept : at_least_0 (sub binary64 x (double (pos W))) ≡ sub binary64 x (double (pos W))
    left_kept =
        subst (λ (y : Float). at_least_0 y ≡ y) (sym left_is)
        (kept binary64 (round binary64 false rest L) (round_plus binary64 rest L) (round-fits binary64 false rest L))

    pub part_is : Part (sub binary64 x (double (pos W)))
    part_is = subst Part (sym left_is) (part_value (round binary64 false rest L) (grid binary64 rest L) rest_value t')

-- ---- the sum
sum_is : (s : Bool) (p b q : ℕ) → (s ≡ true → p ≡ 0) → sum binary64 s p false b q ≡ round binary64 false (p + b) q
unfolding sum
sum_is false p b q z = refl
sum_is true p b q z = ap (λ (x : ℕ). sum binary64 true x false b q) (z refl) ∙ go (ltb 0 b) refl
  where
    go :
        (c : Bool) → ltb 0 b ≡ c → cond c (round binary64 false (b - 0) q)
        (round binary64 (true && ltb b 0) (0 - b) q) ≡ round binary64 false (p + b) q
    go true h =
        let k : b - 0 ≡ p + b = omega (arith, z refl) in
        ap (λ (x : ℕ). round binary64 false x q) k
    go false h =
        let l = ltb-false 0 b h in
        let k : 0 - b ≡ p + b = omega (arith, z refl) in
        λ i. round binary64 (true && le-ltb b 0 (omega arith) i) (k i) q

pub slow_cast : (r : Float) → Slow r → (cast_u32 r ≡ whole_of r) × (whole_of r < 2147483648)
unfolding to_unsigned
slow_cast nan h = absurd h
slow_cast (inf s) h = absurd h
slow_cast (fin s m e) h =
    let k : m * up e / down e < 2147483648 = (div-lt_iff_lt-mul (down_pos e)).1 h.1 in
    let i : min (m * up e / down e) 4294967295 ≡ m * up e / down e = omega arith in
    (rw h.0 i, k)

abbrev pub taken : Bool → ℕ → ℕ
taken b k = k + cond b 0 1

taken_most : (b : Bool) (k : ℕ) → taken b k ≤ k + 1
taken_most true k = omega arith
taken_most false k = omega arith

abbrev Left : Float → ℕ → Type 0
Left x W =
    (cast_u32 x ≡ W) × Part (sub binary64 x (double (pos W)))
    × (at_least_0 (sub binary64 x (double (pos W))) ≡ sub binary64 x (double (pos W)))

-- the whole part of the sum, and what is left
module _ (s : Bool) (m : ℕ) (e : ℤ) (n : ℕ) (g : ℤ) (F : Part (fin s m e)) (R : Slow (fin false n g)) where
  abbrev p : ℕ
  p = m * up e

  abbrev q : ℕ
  q = down e

  abbrev u : ℕ
  u = n * up g

  abbrev v : ℕ
  v = down g

  abbrev N : ℕ
  N = p * v + u * q

  abbrev d : ℕ
  d = q * v

  D : 0 < d
  D = mul-pos (down_pos e) (down_pos g)

  input_is : add binary64 (fin s m e) (fin false n g) ≡ round binary64 false N d
  unfolding add
  input_is = sum_is s (p * v) (u * q) d (λ t. ap (λ (x : ℕ). x * v) (F.0 t) ∙ zero-mul v)

  few : N ≤ 4294967296 * d
  few =
      let a : p * v ≤ q * v = mul-le-mul_right v (le_of_lt F.1) in
      let b : u * q ≤ 2147483648 * v * q = mul-le-mul_right q (le_of_lt R.1) in
      let c : 2147483648 * v * q ≡ 2147483648 * (q * v) = mul_assoc 2147483648 v q ∙ ap (λ (x : ℕ). 2147483648 * x) (mul_comm v q) in
      omega arith

  abbrev w : ℕ
  w = u / v

  base : w * d ≤ N
  base =
      let a : w * v * q ≤ u * q = mul-le-mul_right q (div-mul-le_self u v) in
      let c : w * (q * v) ≡ w * v * q = ap (λ (x : ℕ). w * x) (mul_comm q v) ∙ sym (mul_assoc w v q) in
      omega arith

  abbrev x : Float
  x = round binary64 false N d

  abbrev G : ℕ
  G = grid binary64 N d

  w_few : w < 2147483648
  w_few = (div-lt_iff_lt-mul (down_pos g)).1 R.1

  reached : (b : Bool) → lt x (double (pos (w + 1))) ≡ b → taken b w * L ≤ G
  reached true t = le_trans (le_of_eq (ap (λ (k : ℕ). k * L) same)) (at_least N d D few w base)
    where
      same : w + 0 ≡ w
      same = omega arith
  reached false t =
      ltb-false G ((w + 1) * L) (sym
      (lt_value x (double (pos (w + 1))) G (w + 1) (value N d D few) (whole_value binary64 (w + 1) (omega (arith, w_few)))) ∙ t)

  small : (b : Bool) → taken b w < 4294967296
  small true = omega (arith, w_few)
  small false = omega (arith, w_few)

  steady_fin : (b : Bool) → lt x (double (pos (w + 1))) ≡ b → lt (sub binary64 x (double (pos (taken b w)))) +1 ≡ true
      → Left x (taken b w)
  steady_fin b t l = (
    whole_is x G (taken b w) (value N d D few) (at_most N d D few) (small b) (reached b t) l,
    part_is x G (taken b w) (value N d D few) (at_most N d D few) (small b) (reached b t) l,
    left_kept x G (taken b w) (value N d D few) (at_most N d D few) (small b) (reached b t) l,
  )

pub steady_step : (f r : Float) → Part f → Slow r → (b : Bool) → lt (add binary64 f r) (double (pos (whole_of r + 1))) ≡ b
    → lt (sub binary64 (add binary64 f r) (double (pos (taken b (whole_of r))))) +1 ≡ true
    → Left (add binary64 f r) (taken b (whole_of r))
steady_step nan r F R b t l = absurd F
steady_step (inf s) r F R b t l = absurd F
steady_step (fin s m e) nan F R b t l = absurd R
steady_step (fin s m e) (inf z) F R b t l = absurd R
steady_step (fin s m e) (fin true n g) F R b t l = absurd (true≢false R.0)
steady_step (fin s m e) (fin false n g) F R b t l =
    let i = input_is s m e n g F R in
    subst (λ (y : Float). Left y (taken b (n * up g / down g))) (sym i)
    (steady_fin s m e n g F R b (ap (λ (y : Float). lt y (double (pos (n * up g / down g + 1)))) (sym i) ∙ t)
    (ap (λ (y : Float). lt (sub binary64 y (double (pos (taken b (n * up g / down g))))) +1) (sym i) ∙ l))

-- ---- the tests say so
part_test : (f : Float) → le +0 f ≡ true → lt f +1 ≡ true → Part f
unfolding le lt eq
part_test nan a b = absurd (true≢false (sym a))
part_test (inf true) a b = absurd (true≢false (sym a))
part_test (inf false) a b = absurd (true≢false (sym b))
part_test (fin true m e) a b =
    let z = plus_or_zero true m e a refl in
    ((λ (u : true ≡ true). z), omega (arith, z, down_pos e))
part_test (fin false m e) a b =
    let k = ltb-true (m * up e * 1) (1 * 1 * down e) b in
    ((λ (u : false ≡ true). absurd (true≢false (sym u))), omega (arith, k))

slow_test : (r : Float) → lt +0 r ≡ true → lt r (fin false 1 (pos 31)) ≡ true → Slow r
unfolding lt
slow_test nan a b = absurd (true≢false (sym a))
slow_test (inf true) a b = absurd (true≢false (sym a))
slow_test (inf false) a b = absurd (true≢false (sym b))
slow_test (fin true m e) a b = absurd (true≢false (sym a))
slow_test (fin false m e) a b =
    let k = ltb-true (m * up e * 1) (1 * 2147483648 * down e) b in
    (refl, omega (arith, k))

pub steady_says : (f r : Float) → steady f r ≡ true → Part f × Slow r
unfolding steady is_part is_slow
steady_says f r t =
    let a = and_both (is_part f) (is_slow r) t in
    let b = and_both (le +0 f) (lt f +1) a.0 in
    let c = and_both (lt +0 r) (lt r (fin false 1 (pos 31))) a.1 in
    (part_test f b.0 b.1, slow_test r c.0 c.1)

pub quick_way_says : (c : Cursor) (r : Float) (room : ℕ) → quick_way c r room ≡ true
    → Part c.fraction × Slow r × (room * (cast_u32 r + 1) + 1 < c.remaining)
unfolding quick_way
quick_way_says c r room t =
    let a = and_both (steady c.fraction r) (ltb (room * (cast_u32 r + 1) + 1) c.remaining) t in
    let b = steady_says c.fraction r a.0 in
    (b.0, b.1, ltb-true (room * (cast_u32 r + 1) + 1) c.remaining a.1)

-- a whole number as a float and back
pub whole_back : (k : ℕ) → k < 4294967296 → cast_u32 (double (pos k)) ≡ k
unfolding in_float
whole_back k h = (unsigned_back binary64 32 k (le→leb k (2 ^ 53) (omega arith)) h).1

-- the rate's whole part, or one more
pub one_more : (b : Bool) (k : ℕ) → k < 2147483648 → add binary64 (double (pos k)) (cond b +0 +1) ≡ double (pos (taken b k))
unfolding sum of_int
one_more true k h =
    add_value binary64 (double (pos k)) +0 false false k 0 1 (zero-lt-suc 0) (whole_value binary64 k (omega arith)) (refl, refl)
one_more false k h =
    add_value binary64 (double (pos k)) +1 false false k 1 1 (zero-lt-suc 0) (whole_value binary64 k (omega arith)) (refl, refl)

-- the step as the code takes it, from the rate's whole part as a float
pub record Steps (f r w : Float) : Type 0 where
  pub is : w ≡ double (pos (cast_u32 (add binary64 f r)))
  pub count : cast_u32 w ≡ cast_u32 (add binary64 f r)
  pub most : cast_u32 (add binary64 f r) ≤ cast_u32 r + 1
  pub part : Part (sub binary64 (add binary64 f r) w)
  pub kept : at_least_0 (sub binary64 (add binary64 f r) w) ≡ sub binary64 (add binary64 f r) w

pub stepped :
    (f r whole one : Float) → Part f → Slow r → whole ≡ double (pos (cast_u32 r))
    → one ≡ cond (lt (add binary64 f r) (add binary64 whole +1)) +0 +1
    → lt (sub binary64 (add binary64 f r) (add binary64 whole one)) +1 ≡ true → Steps f r (add binary64 whole one)
stepped f r whole one F R h o t = record {
  is = is;
  count = ap (λ (y : Float). cast_u32 y) is ∙ whole_back (cast_u32 (add binary64 f r)) (to_unsigned-lt 32 (add binary64 f r));
  most = omega (arith, both.0, (slow_cast r R).0, taken_most b k);
  part = subst (λ (y : Float). Part (sub binary64 (add binary64 f r) y)) (sym w_is) both.1;
  kept = subst (λ (y : Float). at_least_0 (sub binary64 (add binary64 f r) y) ≡ sub binary64 (add binary64 f r) y) (sym w_is) both.2;
}
  where
    k : ℕ
    k = whole_of r

    k_few : k < 2147483648
    k_few = (slow_cast r R).1

    whole_is : whole ≡ double (pos k)
    whole_is = h ∙ ap (λ (n : ℕ). double (pos n)) (slow_cast r R).0

    b : Bool
    b = lt (add binary64 f r) (double (pos (k + 1)))

    one_is : one ≡ cond b +0 +1
    one_is =
        o ∙ ap (λ (y : Float). cond (lt (add binary64 f r) y) +0 +1)
        (ap (λ (y : Float). add binary64 y +1) whole_is ∙ one_more false k k_few)

    w_is : add binary64 whole one ≡ double (pos (taken b k))
    w_is = (λ i. add binary64 (whole_is i) (one_is i)) ∙ one_more b k k_few

    both : Left (add binary64 f r) (taken b k)
    both = steady_step f r F R b refl (ap (λ (y : Float). lt (sub binary64 (add binary64 f r) y) +1) (sym w_is) ∙ t)

    is : add binary64 whole one ≡ double (pos (cast_u32 (add binary64 f r)))
    is = w_is ∙ ap (λ (n : ℕ). double (pos n)) (sym both.0)
