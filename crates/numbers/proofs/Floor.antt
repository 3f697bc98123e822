-- The whole part of a number from 0 to M by two additions, in either format: at 2 ^ h and above (h = 23 in f32, 52 in f64) it has no digit
-- below 1, so a + 2 ^ h is a whole number next to it, and 2 ^ h comes off it exactly. What is left is the whole part, or one more where it
-- lies above a. Assumes nothing.
use Rattle.std.proofs.Common.{◌≡◌, ℕ, suc, ◌+◌, ◌-◌, ◌*◌, ◌/◌, ◌^◌, ◌<◌, ◌≤◌, Bool, true, false, ◌&&◌, ltb, ℤ, pos, sym, refl, ap, ◌∙◌}
use Rattle.std.proofs.Common.{subst, le_trans, le_of_eq, lt_of_lt_of_le, lt_of_le_of_lt, mul-le-mul_right, zero-lt-suc, mul_assoc, mul_comm}
use Rattle.std.proofs.Common.{div-lt_iff_lt-mul, add-mul, lt_of_mul-lt-mul_right, mul-lt-mul_of_pos_right, mul-pos, one-mul}
use Rattle.std.proofs.Common.{le-div_iff_mul-le, zero-add, zero-mul, mul-one, mul_right_comm, div-mul-le_self, le_of_mul-le-mul_right}
use Rattle.std.proofs.Common.{arith, pow_pos, pow_mono, pow-add, ltb-false, ltb-true, le-ltb, lt-ltb}
use native.Mathlib.Nat.{eq_of_mul-eq-mul_right, pow-succ'}
use lib.Ieee.{Float, nan, inf, fin, Format, prec, emax, low, up, down, round, sum, add, sub, of_int, lt, below}
use lib.Ieee.Fits.{down_pos}
use lib.Ieee.Exact.{HasValue}
use lib.Ieee.Order.{drop, kept}
use lib.Ieee.Scale.{grid, overflow}
use lib.Ieee.Back.{round_whole}
use Rattle.lists.proofs.Bools.{cond_yes}
use Rattle.numbers.specs.Held.{Upto, whole_of}
use Rattle.numbers.proofs.Cell.{drops_all, cell_le, cell_ge, round_value}
use Rattle.numbers.proofs.Value.{add_value, sub_value}

-- 2 ^ h
abbrev pub big : ℕ → Float
big h = fin false 1 (pos h)

-- a fraction whose denominator comes off
lowered : (x : Float) (s : Bool) (a k : ℕ) → 0 < k → HasValue x s (a * k) k → HasValue x s a 1
lowered nan s a k K h = h
lowered (inf t) s a k K h = h
lowered (fin t m e) s a k K h = (
  h.0,
  eq_of_mul-eq-mul_right k K (m * up e * 1) (a * down e)
      (mul_right_comm (m * up e) 1 k ∙ mul-one (m * up e * k) ∙ h.1 ∙ mul_right_comm a k (down e)),
)

-- sums at L times the size
pub times_lt : (n P q L : ℕ) → 0 < L → n < P * q → n * L < P * L * q
times_lt n P q L K h = lt_of_lt_of_le (mul-lt-mul_of_pos_right h K) (le_of_eq (mul_right_comm P q L))

pub times_le : (n P q L : ℕ) → n ≤ P * q → n * L ≤ P * L * q
times_le n P q L h = le_trans (mul-le-mul_right L h) (le_of_eq (mul_right_comm P q L))

pub times_ge : (n P q L : ℕ) → P * q ≤ n → P * L * q ≤ n * L
times_ge n P q L h = le_trans (le_of_eq (mul_right_comm P L q)) (mul-le-mul_right L h)

-- a whole number off another that is no less
off_exact : (f : Format) (k j : ℕ) → j ≤ k → sum f false k true j 1 ≡ of_int f (pos (k - j))
unfolding sum of_int
off_exact f k j l = rw (le-ltb k j l)

-- the format keeps h digits below the leading one, and reaches past 2 ^ (h + 1)
module _ (f : Format) (h : ℕ) (P : prec f ≡ suc h) (E : h ≤ emax f) where
  abbrev B : ℕ
  B = 2 ^ h

  -- 2 ^ h on to a number that is no less than 0
  on : (s : Bool) (p q : ℕ) → 0 < q → (s ≡ true → p ≡ 0) → sum f s p false (B * q) q ≡ round f false (p + B * q) q
  unfolding sum
  on false p q Q z = refl
  on true p q Q z =
      ap (λ (x : ℕ). sum f true x false (B * q) q) (z refl)
      ∙ cond_yes (round f false (B * q - 0) q) (round f (true && ltb (B * q) 0) (0 - B * q) q) (lt-ltb 0 (B * q) (mul-pos (pow_pos h) Q))
      ∙ ap (λ (x : ℕ). round f false x q) all
    where
      all : B * q - 0 ≡ p + B * q
      all = omega (arith, z refl)

  double : 2 ^ prec f ≡ 2 * B
  double = ap (λ (x : ℕ). 2 ^ x) P ∙ pow-succ' 2 h

  module _ (M : ℕ) (fit : M + 1 < B) (p q : ℕ) (Q : 0 < q) (small : p ≤ M * q) where
    abbrev n : ℕ
    n = p + B * q

    abbrev fl : ℕ
    fl = p / q

    abbrev L : ℕ
    L = 2 ^ low f

    fl_le : fl * q ≤ p
    fl_le = div-mul-le_self p q

    fl_most : fl ≤ M
    fl_most = le_of_mul-le-mul_right (le_trans fl_le small) Q

    fl_next : p < (fl + 1) * q
    fl_next = (div-lt_iff_lt-mul Q).0 one_more
      where
        one_more : fl < fl + 1
        one_more = omega arith

    room : n * L < 2 ^ (prec f + low f) * q
    room =
        subst (λ (x : ℕ). n * L < x * q) (sym (pow-add 2 (prec f) (low f)))
        (times_lt n (2 ^ prec f) q L (pow_pos (low f)) (subst (λ (x : ℕ). n < x * q) (sym double) less))
      where
        most : M * q < B * q
        most = mul-lt-mul_of_pos_right (omega (arith, fit)) Q

        less : n < 2 * B * q
        less = rw (mul_assoc 2 B q) (omega (arith, most))

    abbrev K : ℕ
    K = kept (prec f) (n * L) q

    drop_is : drop (prec f) (n * L) q ≡ low f
    drop_is = drops_all f n q (low f) Q room h P (subst (λ (x : ℕ). x * q ≤ n * L) (sym (pow-add 2 h (low f))) (times_ge n B q L many))
      where
        many : B * q ≤ n
        many = omega arith

    grid_is : grid f n q ≡ K * L
    grid_is = ap (λ (k : ℕ). K * 2 ^ k) drop_is

    K-ge : B + fl ≤ K
    K-ge =
        le_of_mul-le-mul_right (subst (λ (g : ℕ). (B + fl) * L ≤ g) grid_is
        (cell_ge f n q (low f) Q room (B + fl) (times_ge n (B + fl) q L under))) (pow_pos (low f))
      where
        under : (B + fl) * q ≤ n
        under = rw (add-mul B fl q) (omega (arith, fl_le))

    grid_le : grid f n q ≤ (B + (fl + 1)) * L
    grid_le = cell_le f n q (low f) Q room (B + (fl + 1)) (times_le n (B + (fl + 1)) q L over)
      where
        over : n ≤ (B + (fl + 1)) * q
        over = rw (add-mul B (fl + 1) q) (omega (arith, fl_next))

    K-le : K ≤ B + (fl + 1)
    K-le = le_of_mul-le-mul_right (subst (λ (g : ℕ). g ≤ (B + (fl + 1)) * L) grid_is grid_le) (pow_pos (low f))

    rounded : HasValue (round f false n q) false K 1
    rounded =
        lowered (round f false n q) false K L (pow_pos (low f))
        (subst (λ (g : ℕ). HasValue (round f false n q) false g L) grid_is
        (round_value f false n q (lt_of_le_of_lt grid_le
        (subst (λ (x : ℕ). (B + (fl + 1)) * L < x) all (mul-lt-mul_of_pos_right far (pow_pos (low f)))))))
      where
        far : B + (fl + 1) < 2 ^ suc (emax f)
        far = lt_of_lt_of_le (rw (pow-succ' 2 h) (omega (arith, fl_most, fit))) (pow_mono {i = suc h} {j = suc (emax f)} (omega (arith, E)))

        all : 2 ^ suc (emax f) * L ≡ overflow f
        all = mul_comm (2 ^ suc (emax f)) L ∙ sym (pow-add 2 (low f) (suc (emax f)))

    taken_off : sub f (round f false n q) (big h) ≡ of_int f (pos (K - B))
    taken_off =
        sub_value f (round f false n q) (big h) false false K B 1 (zero-lt-suc 0) rounded (refl, ap (λ (x : ℕ). x * 1) (one-mul B))
        ∙ off_exact f K B enough
      where
        enough : B ≤ K
        enough = le_trans at_least K-ge
          where
            at_least : B ≤ B + fl
            at_least = omega arith

-- ---- the two additions leave a whole number k, the whole part or one more, and the test against it tells which
pub scaled_less : (p x d : ℕ) → 0 < d → ltb (p * d) (x * d) ≡ ltb p x
scaled_less p x d D = go (ltb p x) refl
  where
    go : (b : Bool) → ltb p x ≡ b → ltb (p * d) (x * d) ≡ b
    go true h = lt-ltb (p * d) (x * d) (mul-lt-mul_of_pos_right (ltb-true p x h) D)
    go false h = le-ltb (p * d) (x * d) (mul-le-mul_right d (ltb-false p x h))

below_is : (s : Bool) (p n q d k : ℕ) → 0 < d → (s ≡ true → p ≡ 0) → n * 1 ≡ k * d → below s (p * d) false (n * q) ≡ ltb p (k * q)
below_is s p n q d k D z e = go s z
  where
    across : n * q ≡ k * q * d
    across = ap (λ (x : ℕ). x * q) (sym (mul-one n) ∙ e) ∙ mul_right_comm k d q

    go : (s : Bool) → (s ≡ true → p ≡ 0) → below s (p * d) false (n * q) ≡ ltb p (k * q)
    go false z = ap (ltb (p * d)) across ∙ scaled_less p (k * q) d D
    go true z =
        rw (z refl, zero-mul d, zero-add (n * q), across) (ap (λ (x : ℕ). ltb x (k * q * d)) (sym (zero-mul d)) ∙ scaled_less 0 (k * q) d D)

pub lt_is :
    (s : Bool) (m : ℕ) (e : ℤ) (y : Float) (k : ℕ) → HasValue y false k 1 → (s ≡ true → m * up e ≡ 0)
    → lt (fin s m e) y ≡ ltb (m * up e) (k * down e)
unfolding lt
lt_is s m e nan k h z = absurd h
lt_is s m e (inf t) k h z = absurd h
lt_is s m e (fin t n d) k h z = rw h.0 (below_is s (m * up e) (n * up d) (down e) (down d) k (down_pos d) z h.1)

pub record Floored (f : Format) (h M : ℕ) (a : Float) : Type 0 where
  pub k : ℕ
  pub is : sub f (add f a (big h)) (big h) ≡ of_int f (pos k)
  pub most : k ≤ M + 1
  pub over : lt a (of_int f (pos k)) ≡ true → k ≡ whole_of a + 1
  pub not_over : lt a (of_int f (pos k)) ≡ false → k ≡ whole_of a

pub whole_value : (f : Format) (k : ℕ) → k ≤ 2 ^ prec f → HasValue (of_int f (pos k)) false k 1
unfolding of_int
whole_value f k h = round_whole f false k h

-- a float of the value j off a whole number
pub sub_whole :
    (f : Format) (k j : ℕ) (y : Float) → k ≤ 2 ^ prec f → j ≤ k → HasValue y false j 1 → sub f (of_int f (pos k)) y ≡ of_int f (pos (k - j))
sub_whole f k j y few l v = sub_value f (of_int f (pos k)) y false false k j 1 (zero-lt-suc 0) (whole_value f k few) v ∙ off_exact f k j l

pub floored : (f : Format) (h : ℕ) → prec f ≡ suc h → h ≤ emax f → (M : ℕ) → M + 1 < 2 ^ h → (a : Float) → Upto M a → Floored f h M a
floored f h P E M fit nan u = absurd u
floored f h P E M fit (inf s) u = absurd u
floored f h P E M fit (fin s m e) u =
    let p = m * up e in
    let q = down e in
    let Q = down_pos e in
    let b = 2 ^ h in
    let ge = K-ge f h P E M fit p q Q u.1 in
    let le = K-le f h P E M fit p q Q u.1 in
    let l = fl_most f h P E M fit p q Q u.1 in
    let k = K f h P E M fit p q Q u.1 - b in
    let few : k ≤ 2 ^ prec f = rw (double f h P E) (omega arith) in
    let test = lt_is s m e (of_int f (pos k)) k (whole_value f k few) u.0 in
    record {
      k = k;
      is =
          ap (λ (x : Float). sub f x (big h))
          (add_value f (fin s m e) (big h) s false p (b * q) q Q (refl, refl)
          (refl, ap (λ (x : ℕ). x * q) (one-mul b) ∙ sym (mul-one (b * q))) ∙ on f h P E s p q Q u.0)
          ∙ taken_off f h P E M fit p q Q u.1;
      most = omega arith;
      over = λ t. (
          let l : p / q < k = lt_of_mul-lt-mul_right q (lt_of_le_of_lt (div-mul-le_self p q) (ltb-true p (k * q) (sym test ∙ t))) in
          omega arith);
      not_over = λ t. (
          let l : k ≤ p / q = (le-div_iff_mul-le Q).1 (ltb-false p (k * q) (sym test ∙ t)) in
          omega arith);
    }
