-- From 2 ^ 22 to 2 ^ 23 an f32 has halves and nothing finer: the nearest to N / 2 ^ 149 is K / 2, and K stands in its bits. Assumes
-- nothing.
use mathlib.Core.Path.{◌≡◌, refl, ap, ◌∙◌, subst}
use mathlib.Core.Bool.{true, false, true≢false}
use mathlib.Core.Logic.{⊎_elim}
use Prim.Native.Nat.{ℕ, ◌+◌, ◌*◌, ◌/◌, ◌^◌, ◌≤◌, ◌<◌}
use native.Mathlib.Nat.{le_of_eq, lt_of_lt_of_le, lt_of_le_of_lt, not-le_of_lt, mul_assoc, mul-div_cancel, mul-le-mul_right}
use native.Mathlib.Nat.{mul-lt-mul_of_pos_right}
use native.Mathlib.Omega.{arith}
use lib.Dec.{lit<, lit≤}
use lib.Pow.{pow_pos, pow_mono}
use lib.Ieee.{Float, nan, inf, fin, binary32, up, down, size, round, to_bits}
use lib.Ieee.Digits.{size-lt, size-le}
use lib.Ieee.Fits.{down_pos}
use lib.Ieee.Exact.{HasValue}
use lib.Ieee.Order.{drop}
use lib.Ieee.Nearest.{closest, closest_same}
use lib.Ieee.Scale.{grid}
use Rattle.lists.proofs.Walk.{below_or}
use Rattle.numbers.proofs.Cell.{drops_all, round_value}
use Rattle.numbers.proofs.Floor.{times_lt, times_ge}

-- ---- bits by the value
size_is : (n : ℕ) → 2 ^ 171 ≤ n → n < 2 ^ 172 → size n ≡ 172
size_is n h k = both (size n) (size-le n 172 k) (⊎_elim (λ l. absurd (few l)) (λ l. l) (below_or (size n) 172))
  where
    both : (z : ℕ) → z ≤ 172 → 172 ≤ z → z ≡ 172
    both z h k = omega arith

    few : size n < 172 → ⊥
    few l = not-le_of_lt (lt_of_lt_of_le (size-lt n) (pow_mono {i = size n} {j = 171} (omega arith))) h

pub bits_of :
    (x : Float) (K : ℕ) → HasValue x false (K * 2 ^ 148) (2 ^ 149) → 8388608 ≤ K → K < 16777216 → to_bits binary32 x ≡ 1241513984 + K
unfolding to_bits
bits_of nan K v h k = absurd v
bits_of (inf s) K v h k = absurd v
bits_of (fin true m e) K v h k = absurd (true≢false v.0)
bits_of (fin false m e) K v h k =
    let n : m * up e * 2 ^ 149 / down e ≡ K * 2 ^ 148 = ap (λ (x : ℕ). x / down e) v.1 ∙ mul-div_cancel (K * 2 ^ 148) (down_pos e) in
    let z : size (K * 2 ^ 148) ≡ 172 = size_is (K * 2 ^ 148) (mul-le-mul_right (2 ^ 148) h) (mul-lt-mul_of_pos_right k (pow_pos 148)) in
    rw (n, z) (ap (λ (x : ℕ). 1241513984 + x) (mul-div_cancel K (pow_pos 148)))

-- ---- the rounding
-- a quarter and one, in units of 2 ^ -149
abbrev pub Q : ℕ
Q = 2 ^ 147

abbrev pub D : ℕ
D = 2 ^ 149

module _ (N : ℕ) (least : 16777216 * Q ≤ N) (most : N < 33554432 * Q) where
  room : N * 2 ^ 149 < 2 ^ (24 + 148) * D
  room = times_lt N 8388608 D (2 ^ 149) (pow_pos 149) most

  drop_is : drop 24 (N * 2 ^ 149) D ≡ 148
  drop_is = drops_all binary32 N D 148 (pow_pos 149) room 23 refl (times_ge N 4194304 D (2 ^ 149) least)

  grid_is : grid binary32 N D ≡ closest N (2 * Q) * 2 ^ 148
  grid_is =
      ap (λ (k : ℕ). closest (N * 2 ^ 149) (D * 2 ^ k) * 2 ^ k) drop_is
      ∙ ap (λ (x : ℕ). x * 2 ^ 148) (closest_same (N * 2 ^ 149) (D * 2 ^ 148) N (2 * Q) (lit< tt) (lit< tt) (mul_assoc N (2 ^ 149) (2 * Q)))

  pub rounded : closest N (2 * Q) < 16777216 → HasValue (round binary32 false N D) false (closest N (2 * Q) * 2 ^ 148) D
  rounded h =
      subst (λ (g : ℕ). HasValue (round binary32 false N D) false g D) grid_is
      (round_value binary32 false N D
      (lt_of_le_of_lt (le_of_eq grid_is) (lt_of_lt_of_le (mul-lt-mul_of_pos_right h (pow_pos 148)) (lit≤ tt))))

  pub halved :
      closest N (2 * Q) < 16777216 → 8388608 ≤ closest N (2 * Q)
      → to_bits binary32 (round binary32 false N D) ≡ 1241513984 + closest N (2 * Q)
  halved h k = bits_of (round binary32 false N D) (closest N (2 * Q)) (rounded h) k h
