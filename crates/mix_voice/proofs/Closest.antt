-- A fraction rounded to halves, a tie to the even one, and then cut to a whole number: with a quarter taken off first that is the whole
-- part of the fraction, and with a quarter put on the next whole number up from its negative. Over 4 * Q, so that Q is a quarter. Assumes
-- nothing.
use mathlib.Core.Path.{◌≡◌, refl, sym, ap, ◌∙◌, subst}
use mathlib.Core.Bool.{not}
use Prim.Native.Nat.{ℕ, suc, ◌+◌, ◌-◌, ◌*◌, ◌/◌, ◌%◌, ◌≤◌, ◌<◌, compare, Ordering}
use native.Mathlib.Nat.{le_trans, le_of_eq, mul_assoc, mul_comm, mul_left_comm, add-mul, mul-le-mul_right, le_of_mul-le-mul_right}
use native.Mathlib.Nat.{div-add-mod', mod-lt}
use native.Mathlib.Omega.{arith}
use lib.Arith.{digits_div, digits_mod}
use lib.Dec.{T, is_le, compare_is_eq, eqb, eqb_refl, eqb→eq, leb→le, nleb→lt}
use lib.Ieee.{nearest}
use lib.Ieee.Nearest.{closest, closest_mono}

-- ---- what `compare` says
cmp_eq : (a b : ℕ) → a ≡ b → compare a b ≡ Ordering.eq
cmp_eq a b e = go (compare a b) (subst (λ (x : ℕ). T (eqb a x)) e (eqb_refl a))
  where
    go : (o : Ordering) → T (compare_is_eq o) → o ≡ Ordering.eq
    go Ordering.lt t = absurd t
    go Ordering.eq t = refl
    go Ordering.gt t = absurd t

cmp_lt : (a b : ℕ) → a < b → compare a b ≡ Ordering.lt
cmp_lt a b h = go (compare a b) (eqb→eq a b) (nleb→lt a b)
  where
    clash : b < a → ⊥
    clash k = omega arith

    same : a ≡ b → ⊥
    same e = omega arith

    go : (o : Ordering) → (T (compare_is_eq o) → a ≡ b) → (T (not (is_le o)) → b < a) → o ≡ Ordering.lt
    go Ordering.lt e k = refl
    go Ordering.eq e k = absurd (same (e tt))
    go Ordering.gt e k = absurd (clash (k tt))

cmp_gt : (a b : ℕ) → b < a → compare a b ≡ Ordering.gt
cmp_gt a b h = go (compare a b) (leb→le a b)
  where
    clash : a ≤ b → ⊥
    clash k = omega arith

    go : (o : Ordering) → (T (is_le o) → a ≤ b) → o ≡ Ordering.gt
    go Ordering.lt k = absurd (clash (k tt))
    go Ordering.eq k = absurd (clash (k tt))
    go Ordering.gt k = refl

-- ---- k whole ones and a rest
closest_at : (k r d : ℕ) → r < d → closest (k * d + r) d ≡ nearest k (compare (r * 2) d)
closest_at k r d h = rw (digits_div k h, digits_mod k h)

module _ (Q : ℕ) (Q2 : 1 < Q) where
  abbrev d : ℕ
  d = 2 * Q

  at_tie : (k : ℕ) → closest (k * d + Q) d ≡ k + k % 2
  at_tie k = closest_at k Q d (omega arith) ∙ ap (nearest k) (cmp_eq (Q * 2) d (omega arith))

  at_less : (k : ℕ) → closest (k * d + (Q - 1)) d ≡ k
  at_less k = closest_at k (Q - 1) d (omega arith) ∙ ap (nearest k) (cmp_lt ((Q - 1) * 2) d (omega arith))

  at_more : (k : ℕ) → closest (k * d + (Q + 1)) d ≡ suc k
  at_more k = closest_at k (Q + 1) d (omega arith) ∙ ap (nearest k) (cmp_gt ((Q + 1) * 2) d (omega arith))

  d_pos : 0 < d
  d_pos = omega arith

  up_to : (a b : ℕ) → a ≤ b → closest a d ≤ closest b d
  up_to a b h = closest_mono a d b d d_pos d_pos (mul-le-mul_right d h)

  four : (a : ℕ) → 2 * a * d ≡ a * (4 * Q)
  four a = simp (mul_assoc, mul_comm, mul_left_comm) (omega arith)

  module _ (G : ℕ) where
    abbrev a : ℕ
    a = G / (4 * Q)

    abbrev r : ℕ
    r = G % (4 * Q)

    whole : a * (4 * Q) + r ≡ G
    whole = div-add-mod' G (4 * Q)

    rest : r < 4 * Q
    rest = mod-lt G (omega arith)

    times : (k : ℕ) → (k + 2 * a) * d ≡ k * d + a * (4 * Q)
    times k = add-mul k (2 * a) d ∙ ap (λ (x : ℕ). k * d + x) (four a)

    -- a quarter taken off
    abbrev below : ℕ
    below = 25165823 * Q + G

    pub below_ge : 12582912 + 2 * a ≤ closest below d
    below_ge = le_trans even (le_trans (le_of_eq (sym (at_tie (12582911 + 2 * a)))) (up_to ((12582911 + 2 * a) * d + Q) below within))
      where
        even : 12582912 + 2 * a ≤ 12582911 + 2 * a + (12582911 + 2 * a) % 2
        even = omega arith

        within : (12582911 + 2 * a) * d + Q ≤ 25165823 * Q + G
        within = rw (times 12582911) (omega (arith, whole))

    pub below_le : closest below d ≤ 12582913 + 2 * a
    below_le = le_trans (up_to below ((12582913 + 2 * a) * d + (Q - 1)) within) (le_of_eq (at_less (12582913 + 2 * a)))
      where
        within : 25165823 * Q + G ≤ (12582913 + 2 * a) * d + (Q - 1)
        within = rw (times 12582913) (omega (arith, whole, rest))

    pub cut_below : closest below d / 2 ≡ 6291456 + G / (4 * Q)
    cut_below = omega (arith, below_ge, below_le)

    -- a quarter put on the negative
    module _ (few : G ≤ 8388604 * Q) where
      abbrev above : ℕ
      above = 25165825 * Q - G

      pub a_few : a ≤ 2097151
      a_few = le_of_mul-le-mul_right (le_trans most (le_of_eq full)) (omega arith)
        where
          most : a * (4 * Q) ≤ 8388604 * Q
          most = omega (arith, whole)

          full : 8388604 * Q ≡ 2097151 * (4 * Q)
          full = omega arith

      back : (k : ℕ) → 2 * a ≤ k → (k - 2 * a) * d + a * (4 * Q) ≡ k * d
      back k h = sym (times (k - 2 * a)) ∙ ap (λ (x : ℕ). x * d) same
        where
          same : k - 2 * a + 2 * a ≡ k
          same = omega arith

      pub above_le : closest above d ≤ 12582912 - 2 * a
      above_le = le_trans (up_to above ((12582912 - 2 * a) * d + Q) within) (le_trans (le_of_eq (at_tie (12582912 - 2 * a))) even)
        where
          even : 12582912 - 2 * a + (12582912 - 2 * a) % 2 ≤ 12582912 - 2 * a
          even = omega (arith, a_few)

          within : 25165825 * Q - G ≤ (12582912 - 2 * a) * d + Q
          within = omega (arith, whole, back 12582912 (omega (arith, a_few)))

      pub above_ge : 12582911 - 2 * a ≤ closest above d
      above_ge =
          le_trans next (le_trans (le_of_eq (sym (at_more (12582910 - 2 * a)))) (up_to ((12582910 - 2 * a) * d + (Q + 1)) above within))
        where
          next : 12582911 - 2 * a ≤ suc (12582910 - 2 * a)
          next = omega (arith, a_few)

          within : (12582910 - 2 * a) * d + (Q + 1) ≤ 25165825 * Q - G
          within = omega (arith, few, whole, rest, back 12582910 (omega (arith, a_few)))

      pub cut_above : (closest above d + 1) / 2 ≡ 6291456 - G / (4 * Q)
      cut_above = omega (arith, a_few, above_ge, above_le)
