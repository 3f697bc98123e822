-- A number below 2 ^ 21 in size, a quarter nearer to zero, in halves: cut to a whole number that is the number's whole part with its
-- sign. Assumes nothing.
use mathlib.Core.Path.{◌≡◌, refl, sym, ap, ◌∙◌, subst}
use mathlib.Core.Bool.{Bool, true, false, not, ◌&&◌, cond}
use mathlib.Core.Logic.{⊎_elim, ◌⊎◌, inl, inr}
use Prim.Native.Nat.{ℕ, ◌+◌, ◌-◌, ◌*◌, ◌/◌, ◌%◌, ◌^◌, ◌≤◌, ◌<◌, compare}
use native.Mathlib.Nat.{le_trans, le_of_eq, lt_of_le_of_lt, zero-mul, mul_comm, mul-sub, mul-le-mul_right, div-eq_of_lt, div-div-eq-div-mul}
use native.Mathlib.Nat.{sub-le}
use native.Mathlib.Omega.{arith}
use lib.IntN.{pos, negsuc}
use lib.Dec.{ltb, lit<}
use lib.Pow.{pow_pos, pow-add}
use borrow.Author.Tests.{lt-ltb, ltb-true, ltb-false}
use lib.Ieee.{Float, fin, binary32, round, sum, add, sub, to_bits}
use lib.Ieee.Digits.{back}
use lib.Ieee.Fits.{kept-lt, nearest-le}
use lib.Ieee.Exact.{HasValue, round_exact}
use lib.Ieee.Order.{drop, kept}
use lib.Ieee.Nearest.{closest}
use lib.Ieee.Scale.{grid}
use Rattle.lists.proofs.Bools.{cond_yes}
use Rattle.numbers.proofs.Cell.{drops, cell_le, round_value}
use Rattle.numbers.proofs.Floor.{times_lt, times_le}
use Rattle.numbers.proofs.Value.{add_value, sub_value}
use Rattle.mix_voice.proofs.Closest.{below_ge, below_le, cut_below, above_ge, above_le, cut_above, a_few}
use Rattle.mix_voice.proofs.Halved.{Q, D, rounded, halved}

-- a quarter, with a sign, and 2 ^ 22 + 2 ^ 21
abbrev pub quarter : Bool → Float
quarter b = fin b 1 (negsuc 1)

abbrev pub middle : Float
middle = fin false 3 (pos 21)

Q-two : 1 < Q
Q-two = lit< tt

pub Q-pos : 0 < Q
Q-pos = lit< tt

-- a quarter or less, rounded, is so
small_round : (s : Bool) (w : ℕ) → w ≤ Q → (W : ℕ) × (W ≤ Q) × HasValue (round binary32 s w D) s W D
small_round s w h =
    let full : w * 2 ^ 149 ≤ Q * D = mul-le-mul_right (2 ^ 149) h in
    let g : grid binary32 w D ≤ Q = cell_le binary32 w D 147 (pow_pos 149) (lt_of_le_of_lt full (lit< tt)) 1 full in
    (grid binary32 w D, g, round_value binary32 s w D (lt_of_le_of_lt g (lit< tt)))

-- what is left with a quarter taken from a size G, or the other way
pub record Less (b : Bool) (y : Float) (G : ℕ) : Type 0 where
  pub g : ℕ
  pub same : g / (4 * Q) ≡ G / (4 * Q)
  pub few : g ≤ 8388604 * Q
  pub at : ((Q ≤ g) × HasValue y b (g - Q) D) ⊎ ((g ≤ Q) × HasValue y (not b) (Q - g) D)

pub no_whole : (P g : ℕ) → 0 < P → g ≤ P → g / (4 * P) ≡ 0
no_whole P g h k = div-eq_of_lt less
  where
    less : g < 4 * P
    less = omega arith

pub within_4 : (P g : ℕ) → g ≤ P → g ≤ 8388604 * P
within_4 P g h = omega arith

from_small : (b : Bool) (y : Float) (G : ℕ) → G ≤ Q → (W : ℕ) × (W ≤ Q) × HasValue y (not b) W D → Less b y G
from_small b y G h k = record {
  g = Q - k.0;
  same = no_whole Q (Q - k.0) Q-pos (sub-le Q k.0) ∙ sym (no_whole Q G Q-pos h);
  few = within_4 Q (Q - k.0) (sub-le Q k.0);
  at = inr (sub-le Q k.0, subst (λ (w : ℕ). HasValue y (not b) w D) (sym (twice Q k.0 k.1)) k.2);
}
  where
    twice : (P w : ℕ) → w ≤ P → P - (P - w) ≡ w
    twice P w h = omega arith

module _ (n d : ℕ) (d0 : 0 < d) (most : n ≤ 2097151 * d) where
  abbrev pub G : ℕ
  G = grid binary32 n d

  abbrev j : ℕ
  j = drop 24 (n * 2 ^ 149) d

  abbrev q : ℕ
  q = kept 24 (n * 2 ^ 149) d

  small : n * 2 ^ 149 < 2 ^ (24 + 147) * d
  small = times_lt n 4194304 d (2 ^ 149) (pow_pos 149) less
    where
      less : n < 4194304 * d
      less = omega arith

  j_le : j ≤ 147
  j_le = drops binary32 n d 147 d0 small

  G-le : G ≤ 8388604 * Q
  G-le = cell_le binary32 n d 147 d0 small 8388604 (times_le n 2097151 d (2 ^ 149) most)

  pub x_value : (s : Bool) → HasValue (round binary32 s n d) s G D
  x_value s = round_value binary32 s n d (lt_of_le_of_lt G-le (lit< tt))

  q_le : q ≤ 16777216
  q_le =
      let u = d * 2 ^ j in
      le_trans (nearest-le (n * 2 ^ 149 / u) (compare (n * 2 ^ 149 % u * 2) u))
      (subst (λ (x : ℕ). x < 2 ^ 24) (div-div-eq-div-mul (n * 2 ^ 149) d (2 ^ j)) (kept-lt 24 (n * 2 ^ 149 / d)))

  pub G-zero : n ≡ 0 → G ≡ 0
  G-zero z = none G (cell_le binary32 n d 147 d0 small 0 (le_of_eq (ap (λ (x : ℕ). x * 2 ^ 149) z ∙ sym (zero-mul d))))
    where
      none : (G : ℕ) → G ≤ 0 → G ≡ 0
      none G h = omega arith

  -- the quarter comes off exactly
  abbrev r : ℕ
  r = 2 ^ (147 - j)

  off : (q - r) * 2 ^ j ≡ G - Q
  off =
      mul_comm (q - r) (2 ^ j) ∙ mul-sub (2 ^ j) q r
      ∙ (λ i. mul_comm (2 ^ j) q i - (mul_comm (2 ^ j) r ∙ sym (pow-add 2 (147 - j) j) ∙ ap (λ (x : ℕ). 2 ^ x) (back 147 j j_le)) i)

  exact : (s : Bool) → HasValue (round binary32 s (G - Q) D) s (G - Q) D
  exact s =
      round_exact binary32 s (G - Q) D (q - r) j (pow_pos 149) (fewer q r q_le (pow_pos (147 - j)))
      (lt_of_le_of_lt (le_of_eq off) (lt_of_le_of_lt (sub-le G Q) (lt_of_le_of_lt G-le (lit< tt))))
      (ap (λ (x : ℕ). x * D) (sym off))
    where
      fewer : (q r : ℕ) → q ≤ 16777216 → 0 < r → q - r < 16777216
      fewer q r h k = omega arith

  from_exact : (b : Bool) → Q ≤ G → Less b (round binary32 b (G - Q) D) G
  from_exact b h = record { g = G; same = refl; few = G-le; at = inl (h, exact b) }

  none_more : (G P : ℕ) → G ≡ 0 → (G + P ≤ P) × (G ≤ P)
  none_more G P z = (omega arith, omega arith)

  le_of_lt' : (G P : ℕ) → G < P → G ≤ P
  le_of_lt' G P h = omega arith

  none_left : (G P : ℕ) → G ≤ P → G - P ≤ P
  none_left G P h = omega arith

  less : (s b : Bool) → (s ≡ not b → G ≡ 0) → Less b (sum binary32 s G (not b) Q D) G
  unfolding sum
  less false false z = go (ltb G Q) refl
    where
      go : (t : Bool) → ltb G Q ≡ t → Less false (cond t (round binary32 true (Q - G) D) (round binary32 false (G - Q) D)) G
      go true e =
          from_small false (round binary32 true (Q - G) D) G (le_of_lt' G Q (ltb-true G Q e)) (small_round true (Q - G) (sub-le Q G))
      go false e = from_exact false (ltb-false G Q e)
  less true false z =
      from_small false (round binary32 true (G + Q) D) G (none_more G Q (z refl)).1 (small_round true (G + Q) (none_more G Q (z refl)).0)
  less false true z =
      from_small true (round binary32 false (G + Q) D) G (none_more G Q (z refl)).1 (small_round false (G + Q) (none_more G Q (z refl)).0)
  less true true z = go (ltb G Q) (ltb Q G) refl refl
    where
      go :
          (t u : Bool) → ltb G Q ≡ t → ltb Q G ≡ u
          → Less true (cond t (round binary32 false (Q - G) D) (round binary32 (true && u) (G - Q) D)) G
      go true u e f =
          from_small true (round binary32 false (Q - G) D) G (le_of_lt' G Q (ltb-true G Q e)) (small_round false (Q - G) (sub-le Q G))
      go false true e f = from_exact true (ltb-false G Q e)
      go false false e f =
          from_small true (round binary32 false (G - Q) D) G (ltb-false Q G f) (small_round false (G - Q) (none_left G Q (ltb-false Q G f)))

  pub less_quarter : (s b : Bool) → (s ≡ not b → G ≡ 0) → Less b (sub binary32 (round binary32 s n d) (quarter b)) G
  less_quarter s b z =
      subst (λ (y : Float). Less b y G)
      (sym (sub_value binary32 (round binary32 s n d) (quarter b) s b G Q D (pow_pos 149) (x_value s) (refl, refl))) (less s b z)

-- ---- with 2 ^ 22 + 2 ^ 21 put on it stands in halves, its bits are those of 2 ^ 22 and twice what was added
abbrev pub Cutting : Bool → ℕ → ℕ → Type 0
Cutting false K fl = (12582912 ≤ K) × (K / 2 ≡ 6291456 + fl)
Cutting true K fl = (K ≤ 12582912) × ((K + 1) / 2 ≡ 6291456 - fl)

pub record Seen (b : Bool) (t : Float) (fl : ℕ) : Type 0 where
  pub K : ℕ
  pub value : HasValue t false (K * 2 ^ 148) D
  pub bits : to_bits binary32 t ≡ 1241513984 + K
  pub least : 8388608 ≤ K
  pub most : K < 16777216
  pub cut : Cutting b K fl
  pub few : fl ≤ 2097151

bounds : (a K : ℕ) → a ≤ 2097151 → 12582911 - 2 * a ≤ K → K ≤ 12582913 + 2 * a → (K < 16777216) × (8388608 ≤ K)
bounds a K h k l = (omega arith, omega arith)

seen_of :
    (b : Bool) (t : Float) (fl N : ℕ) → 16777216 * Q ≤ N → N < 33554432 * Q → t ≡ round binary32 false N D → fl ≤ 2097151
    → 12582911 - 2 * fl ≤ closest N (2 * Q) → closest N (2 * Q) ≤ 12582913 + 2 * fl
    → Cutting b (closest N (2 * Q)) fl → Seen b t fl
seen_of b t fl N low high e few ge le cut =
    let k = bounds fl (closest N (2 * Q)) few ge le in
    record {
      K = closest N (2 * Q);
      value = subst (λ (x : Float). HasValue x false (closest N (2 * Q) * 2 ^ 148) D) (sym e) (rounded N low high k.0);
      bits = ap (to_bits binary32) e ∙ halved N low high k.0 k.1;
      least = k.1;
      most = k.0;
      cut = cut;
      few = few;
    }

seen_below : (t : Float) (g : ℕ) → g ≤ 8388604 * Q → t ≡ round binary32 false (25165823 * Q + g) D → Seen false t (g / (4 * Q))
seen_below t g h e =
    let f = a_few Q Q-two g h in
    let ge = below_ge Q Q-two g in
    let le = below_le Q Q-two g in
    seen_of false t (g / (4 * Q)) (25165823 * Q + g) (low Q g) (high Q g Q-pos h) e f
    (weaker (g / (4 * Q)) (closest (25165823 * Q + g) (2 * Q)) ge) le
    (least (g / (4 * Q)) (closest (25165823 * Q + g) (2 * Q)) ge, cut_below Q Q-two g)
  where
    low : (P g : ℕ) → 16777216 * P ≤ 25165823 * P + g
    low P g = omega arith

    high : (P g : ℕ) → 0 < P → g ≤ 8388604 * P → 25165823 * P + g < 33554432 * P
    high P g h k = omega arith

    weaker : (a K : ℕ) → 12582912 + 2 * a ≤ K → 12582911 - 2 * a ≤ K
    weaker a K h = omega arith

    least : (a K : ℕ) → 12582912 + 2 * a ≤ K → 12582912 ≤ K
    least a K h = omega arith

seen_above : (t : Float) (g : ℕ) → g ≤ 8388604 * Q → t ≡ round binary32 false (25165825 * Q - g) D → Seen true t (g / (4 * Q))
seen_above t g h e =
    let f = a_few Q Q-two g h in
    let ge = above_ge Q Q-two g h in
    let le = above_le Q Q-two g h in
    seen_of true t (g / (4 * Q)) (25165825 * Q - g) (low Q g h) (high Q g Q-pos) e f ge
    (weaker (g / (4 * Q)) (closest (25165825 * Q - g) (2 * Q)) le)
    (most (g / (4 * Q)) (closest (25165825 * Q - g) (2 * Q)) le, cut_above Q Q-two g h)
  where
    low : (P g : ℕ) → g ≤ 8388604 * P → 16777216 * P ≤ 25165825 * P - g
    low P g h = omega arith

    high : (P g : ℕ) → 0 < P → 25165825 * P - g < 33554432 * P
    high P g h = omega arith

    weaker : (a K : ℕ) → K ≤ 12582912 - 2 * a → K ≤ 12582913 + 2 * a
    weaker a K h = omega arith

    most : (a K : ℕ) → K ≤ 12582912 - 2 * a → K ≤ 12582912
    most a K h = omega arith

-- the sum with the middle, by the sign and the size of what is added
abbrev M : ℕ
M = 25165824 * Q

plus_middle : (y : Float) (s : Bool) (w : ℕ) → HasValue y s w D → add binary32 y middle ≡ sum binary32 s w false M D
plus_middle y s w v = add_value binary32 y middle s false w M D (pow_pos 149) v (refl, refl)

added : (y : Float) (w N : ℕ) → HasValue y false w D → w + M ≡ N → add binary32 y middle ≡ round binary32 false N D
unfolding sum
added y w N v e = plus_middle y false w v ∙ ap (λ (x : ℕ). round binary32 false x D) e

taken : (y : Float) (w N : ℕ) → HasValue y true w D → w < M → M - w ≡ N → add binary32 y middle ≡ round binary32 false N D
unfolding sum
taken y w N v h e =
    plus_middle y true w v ∙ cond_yes (round binary32 false (M - w) D) (round binary32 (true && ltb M w) (w - M) D) (lt-ltb w M h)
    ∙ ap (λ (x : ℕ). round binary32 false x D) e

pub seen : (b : Bool) (y : Float) (G : ℕ) → Less b y G → Seen b (add binary32 y middle) (G / (4 * Q))
seen false y G l =
    subst (λ (a : ℕ). Seen false (add binary32 y middle) a) l.same
    (seen_below (add binary32 y middle) l.g l.few
    (⊎_elim (λ h. added y (l.g - Q) (25165823 * Q + l.g) h.1 (up Q l.g h.0))
    (λ h. taken y (Q - l.g) (25165823 * Q + l.g) h.1 (less Q l.g Q-pos) (down Q l.g h.0)) l.at))
  where
    up : (P g : ℕ) → P ≤ g → g - P + 25165824 * P ≡ 25165823 * P + g
    up P g h = omega arith

    down : (P g : ℕ) → g ≤ P → 25165824 * P - (P - g) ≡ 25165823 * P + g
    down P g h = omega arith

    less : (P g : ℕ) → 0 < P → P - g < 25165824 * P
    less P g h = omega arith
seen true y G l =
    subst (λ (a : ℕ). Seen true (add binary32 y middle) a) l.same
    (seen_above (add binary32 y middle) l.g l.few
    (⊎_elim (λ h. taken y (l.g - Q) (25165825 * Q - l.g) h.1 (less Q l.g Q-pos l.few) (down Q l.g h.0))
    (λ h. added y (Q - l.g) (25165825 * Q - l.g) h.1 (up Q l.g h.0)) l.at))
  where
    up : (P g : ℕ) → g ≤ P → P - g + 25165824 * P ≡ 25165825 * P - g
    up P g h = omega arith

    down : (P g : ℕ) → P ≤ g → 25165824 * P - (g - P) ≡ 25165825 * P - g
    down P g h = omega arith

    less : (P g : ℕ) → 0 < P → g ≤ 8388604 * P → g - P < 25165824 * P
    less P g h k = omega arith
