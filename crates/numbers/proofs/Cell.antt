-- A rounded fraction never crosses a multiple of 2 ^ g units, where 2 ^ g is no finer than what the format keeps at its size: it is the
-- nearest multiple of some 2 ^ k with k at most g. A unit is the format's smallest value, 2 ^ -low. Assumes nothing.
use Rattle.std.proofs.Common.{◌≡◌, ℕ, suc, ◌+◌, ◌-◌, ◌*◌, ◌/◌, ◌%◌, ◌^◌, ◌<◌, ◌≤◌, Bool, sym, refl, ap, ◌∙◌, ⊎_elim, le_trans, le_of_eq}
use Rattle.std.proofs.Common.{lt_of_lt_of_le, mul-le-mul_right, zero-lt-suc, mul_assoc, mul_comm, div-lt_iff_lt-mul, mul-pos}
use Rattle.std.proofs.Common.{le-div_iff_mul-le, mul-one, not-le_of_lt, arith, pow_pos, pow_mono, pow-add}
use lib.Ieee.{Format, prec, low, size, round}
use lib.Ieee.Digits.{size-lt, size-le, back}
use lib.Ieee.Fits.{round_is}
use lib.Ieee.Exact.{HasValue, units_val}
use lib.Ieee.Nearest.{closest, closest_mono}
use lib.Ieee.Order.{drop, kept}
use lib.Ieee.Scale.{grid, overflow}
use Rattle.lists.proofs.Walk.{below_or}

-- a whole number is its own nearest
whole_closest : (x : ℕ) → closest x 1 ≡ x
whole_closest x =
    let q : x / 1 ≡ x = omega arith in
    let r : x % 1 ≡ 0 = omega arith in
    rw (q, r)

-- the rounded value of n / d, at either sign, is `grid` units
pub round_value : (f : Format) (s : Bool) (n d : ℕ) → grid f n d < overflow f → HasValue (round f s n d) s (grid f n d) (2 ^ low f)
round_value f s n d h = rw (round_is f s n d) (units_val f s (kept (prec f) (n * 2 ^ low f) d) (drop (prec f) (n * 2 ^ low f) d) h)

module _ (f : Format) (n d g : ℕ) (D : 0 < d) (small : n * 2 ^ low f < 2 ^ (prec f + g) * d) where
  abbrev N : ℕ
  N = n * 2 ^ low f

  abbrev k : ℕ
  k = drop (prec f) N d

  pub drops : k ≤ g
  drops = spare (size (N / d)) (prec f) g (size-le (N / d) (prec f + g) ((div-lt_iff_lt-mul D).1 small))
    where
      spare : (z p l : ℕ) → z ≤ p + l → z - p ≤ l
      spare z p l h = omega arith

  -- where it has as many digits as the format keeps and g more, k is g
  pub drops_all : (h : ℕ) → prec f ≡ suc h → 2 ^ (h + g) * d ≤ N → k ≡ g
  drops_all h P least =
      both k (size (N / d)) (prec f) g drops refl (⊎_elim (λ x. absurd (few x)) (λ x. x) (below_or (size (N / d)) (prec f + g)))
    where
      both : (k z p l : ℕ) → k ≤ l → k ≡ z - p → p + l ≤ z → k ≡ l
      both k z p l x e y = omega arith

      few : size (N / d) < prec f + g → ⊥
      few x =
          not-le_of_lt (lt_of_lt_of_le (size-lt (N / d)) (pow_mono {i = size (N / d)} {j = h + g} (under (size (N / d)) (prec f) x P)))
          ((le-div_iff_mul-le D).1 least)
        where
          under : (z p : ℕ) → z < p + g → p ≡ suc h → z ≤ h + g
          under z p x e = omega arith

  -- c * 2 ^ g, in multiples of 2 ^ k
  in_k : (c : ℕ) → c * 2 ^ (g - k) * 2 ^ k ≡ c * 2 ^ g
  in_k c = mul_assoc c (2 ^ (g - k)) (2 ^ k) ∙ ap (λ (x : ℕ). c * x) (sym (pow-add 2 (g - k) k) ∙ ap (λ (x : ℕ). 2 ^ x) (back g k drops))

  -- and as a fraction over d * 2 ^ k
  across : (c : ℕ) → c * 2 ^ g * d ≡ c * 2 ^ (g - k) * (d * 2 ^ k)
  across c =
      ap (λ (x : ℕ). x * d) (sym (in_k c)) ∙ mul_assoc (c * 2 ^ (g - k)) (2 ^ k) d
      ∙ ap (λ (x : ℕ). c * 2 ^ (g - k) * x) (mul_comm (2 ^ k) d)

  pub cell_le : (c : ℕ) → N ≤ c * 2 ^ g * d → grid f n d ≤ c * 2 ^ g
  cell_le c h =
      let m = c * 2 ^ (g - k) in
      let e : closest N (d * 2 ^ k) ≤ closest m 1 = closest_mono N (d * 2 ^ k) m 1 (mul-pos D (pow_pos k)) (zero-lt-suc 0)
      (le_trans (le_of_eq (mul-one N)) (le_trans h (le_of_eq (across c)))) in
      le_trans (mul-le-mul_right (2 ^ k) (le_trans e (le_of_eq (whole_closest m)))) (le_of_eq (in_k c))

  pub cell_ge : (c : ℕ) → c * 2 ^ g * d ≤ N → c * 2 ^ g ≤ grid f n d
  cell_ge c h =
      let m = c * 2 ^ (g - k) in
      let e : closest m 1 ≤ closest N (d * 2 ^ k) = closest_mono m 1 N (d * 2 ^ k) (zero-lt-suc 0) (mul-pos D (pow_pos k))
      (le_trans (le_of_eq (sym (across c))) (le_trans h (le_of_eq (sym (mul-one N))))) in
      le_trans (le_of_eq (sym (in_k c))) (mul-le-mul_right (2 ^ k) (le_trans (le_of_eq (sym (whole_closest m))) e))
