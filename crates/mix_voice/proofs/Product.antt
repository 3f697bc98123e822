-- A product below 2 ^ 21 in size, cut by its sign: what the quick way makes of it is the product's cast, and how the cast is read from the
-- bits. Assumes nothing.
use mathlib.Core.Path.{◌≡◌, refl, sym, ap, ◌∙◌, subst}
use mathlib.Core.Bool.{Bool, true, false, not, ◌&&◌, ◌||◌, cond, true≢false}
use mathlib.Core.Logic.{⊎_elim}
use Prim.Native.Nat.{ℕ, suc, ◌+◌, ◌-◌, ◌*◌, ◌/◌, ◌^◌, ◌≤◌, ◌<◌, min}
use native.Mathlib.Nat.{le_trans, le_of_eq, mul-one, mul-le-mul}
use native.Mathlib.Nat.{zero-lt-suc}
use native.Mathlib.Omega.{arith}
use lib.IntN.{ℤ, pos, neg_ℤ, nat_abs, sub_ℕ, ◌-ℤ◌}
use lib.Dec.{T, ltb, lit<, lit≤}
use lib.Pow.{pow_pos}
use lib.Signed.{mag, shr_z, nat_abs-le}
use mir.Syntax.{w32}
use mir.Val.{SFits, to_z, of_z}
use mir.Facts.{to_z-of_z}
use borrow.Author.Tests.{ltb-true}
use lib.Ieee.{Float, nan, inf, fin, binary32, of_bits, up, down, unlike, round, add, sub, mul, neg, to_signed}
use lib.Ieee.{is_nan, to_bits}
use Rattle.std.specs.Float.{is_sign_negative}
use lib.Ieee.Fits.{down_pos}
use lib.Ieee.Exact.{HasValue}
use lib.Ieee.Nearest.{div_same}
use Rattle.lists.proofs.Walk.{below_or}
use Rattle.numbers.specs.Casts.{cast_i32, single}
use Rattle.numbers.proofs.Bounds.{sub_below, sub_above, shr_read}
use Rattle.numbers.proofs.Value.{below_0, int_value, mul_value}
use Rattle.mix_voice.specs.Quick.{QUICK_GAIN, +¼, -¼, Around}
use Rattle.mix_voice.proofs.Halved.{D}
use Rattle.mix_voice.proofs.Quarter.{quarter, middle, G, x_value, less_quarter, Cutting, Seen, seen}

-- ---- the code's literals
pub quarter_32 : of_bits binary32 0x3e80_0000 ≡ +¼
unfolding of_bits
quarter_32 = refl

pub minus_quarter_32 : neg (of_bits binary32 0x3e80_0000) ≡ -¼
unfolding of_bits neg
minus_quarter_32 = refl

pub thirty_two : of_bits binary32 0x4200_0000 ≡ QUICK_GAIN
unfolding of_bits
thirty_two = refl

pub middle_32 : of_bits binary32 0x4ac0_0000 ≡ middle
unfolding of_bits
middle_32 = refl

-- ---- what the tests of a gain say
pub le_means : (p q : ℕ) (b c : Bool) → (T b → p ≡ q) → (ltb p q || (b && c)) ≡ true → p ≤ q
le_means p q b c k h = go (ltb p q) b (ltb-true p q) k h
  where
    under : p < q → p ≤ q
    under l = omega arith

    go : (a b : Bool) → (a ≡ true → p < q) → (T b → p ≡ q) → (a || (b && c)) ≡ true → p ≤ q
    go true b f k e = under (f refl)
    go false true f k e = le_of_eq (k tt)
    go false false f k e = absurd (true≢false (sym e))

-- what the code has for each sign
abbrev pub base_by : Bool → ℤ
base_by b = cond b (pos 0x4ABF_FFFF) (pos 0x4AC0_0000)

pub quarter_by : (b : Bool) → cond b -¼ +¼ ≡ quarter b
quarter_by true = refl
quarter_by false = refl

sign_of : (x : Float) (s : Bool) (a c : ℕ) → HasValue x s a c → is_sign_negative x ≡ s
unfolding is_sign_negative
sign_of nan s a c h = absurd h
sign_of (inf t) s a c h = absurd h
sign_of (fin t m e) s a c h = h.0

not_nan : (x : Float) (s : Bool) (a c : ℕ) → HasValue x s a c → T (not (is_nan x))
unfolding is_nan
not_nan nan s a c h = absurd h
not_nan (inf t) s a c h = absurd h
not_nan (fin t m e) s a c h = tt

-- ---- the cast, by the value
abbrev signed : Bool → ℕ → ℤ
signed b fl = cond b (neg_ℤ (pos fl)) (pos fl)

cast_of : (x : Float) (s : Bool) (g : ℕ) → HasValue x s g D → g / D ≤ 2097151 → cast_i32 x ≡ signed s (g / D)
unfolding to_signed
cast_of nan s g v h = absurd v
cast_of (inf t) s g v h = absurd v
cast_of (fin t m e) s g v h =
    (λ i. cond (v.0 i) (neg_ℤ (pos (min (same i) (2 ^ 31)))) (pos (min (same i) (2 ^ 31 - 1))))
    ∙ (λ i. cond s (neg_ℤ (pos ((less (g / D) h).0 i))) (pos ((less (g / D) h).1 i)))
  where
    same : m * up e / down e ≡ g / D
    same = div_same (m * up e) (down e) g D (down_pos e) (pow_pos 149) v.1

    less : (a : ℕ) → a ≤ 2097151 → (min a 2147483648 ≡ a) × (min a 2147483647 ≡ a)
    less a h = (omega arith, omega arith)

-- ---- a product, cut by its sign
pub record Product (x : Float) : Type 0 where
  pub b : Bool
  pub fl : ℕ
  pub sign : is_sign_negative x ≡ b
  pub number : T (not (is_nan x))
  pub seen : Seen b (add binary32 (sub binary32 x (quarter b)) middle) fl
  pub is : cast_i32 x ≡ signed b fl

like : (s : Bool) → s ≡ not s → ⊥
like true e = true≢false e
like false e = true≢false (sym e)

product : (s : Bool) (n d : ℕ) → 0 < d → n ≤ 2097151 * d → Product (round binary32 s n d)
product s n d d0 most =
    let x = round binary32 s n d in
    let g = G n d d0 most in
    let v = x_value n d d0 most s in
    let k = seen s (sub binary32 x (quarter s)) g (less_quarter n d d0 most s s (λ e. absurd (like s e))) in
    record { b = s; fl = g / D; sign = sign_of x s g D v; number = not_nan x s g D v; seen = k; is = cast_of x s g v k.few }

-- a gain times a sample
pub gain_product : (g : Float) (v : ℤ) → Around 63 g → mag v < 32768 → Product (mul binary32 g (single v))
gain_product nan v f h = absurd f
gain_product (inf s) v f h = absurd f
gain_product (fin s m e) v f h =
    subst (λ (y : Float). Product y) (sym is)
    (product (unlike s (below_0 v)) (m * up e * nat_abs v) (down e * 1) (rw (mul-one (down e)) (down_pos e)) few)
  where
    l : nat_abs v ≤ 32768
    l = nat_abs-le v h

    is : mul binary32 (fin s m e) (single v) ≡ round binary32 (unlike s (below_0 v)) (m * up e * nat_abs v) (down e * 1)
    is =
        mul_value binary32 (fin s m e) (single v) s (below_0 v) (m * up e) (nat_abs v) (down e) 1 (down_pos e) (zero-lt-suc 0) (refl, refl)
        (int_value binary32 v (le_trans l (lit≤ tt)))

    tidy : (q : ℕ) → 63 * q * 32768 ≤ 2097151 * q
    tidy q = omega arith

    few : m * up e * nat_abs v ≤ 2097151 * (down e * 1)
    few = rw (mul-one (down e)) (le_trans (mul-le-mul f l) (tidy (down e)))

-- ---- the shift of the bits less the base
pub shifted : (b : Bool) (K fl : ℕ) → Cutting b K fl → fl ≤ 2097151 → K < 16777216
    → shr_z (pos (1241513984 + K) -ℤ base_by b) 2 ≡ signed b fl
shifted false K fl c f h = ap (λ (z : ℤ). shr_z z 2) (sub_above (1241513984 + K) 0x4AC0_0000 (omega (arith, c.0))) ∙ ap pos half
  where
    half : (1241513984 + K - 0x4AC0_0000) / 2 ≡ fl
    half = omega (arith, c.0, c.1)
shifted true K fl c f h =
    ⊎_elim
    (λ (l : 1241513984 + K < 0x4ABF_FFFF). ap (λ (z : ℤ). shr_z z 2) (sub_below (1241513984 + K) 0x4ABF_FFFF l)
    ∙ ap (λ (n : ℕ). neg_ℤ (pos n)) (sym (half l)))
    (λ (l : 0x4ABF_FFFF ≤ 1241513984 + K). ap (λ (z : ℤ). shr_z z 2) (sub_above (1241513984 + K) 0x4ABF_FFFF l) ∙ ap pos (none l).0
    ∙ ap (λ (n : ℕ). neg_ℤ (pos n)) (sym (none l).1))
    (below_or (1241513984 + K) 0x4ABF_FFFF)
  where
    half : 1241513984 + K < 0x4ABF_FFFF → fl ≡ suc ((0x4ABF_FFFF - suc (1241513984 + K)) / 2)
    half l = omega (arith, c.0, c.1)

    none : 0x4ABF_FFFF ≤ 1241513984 + K → ((1241513984 + K - 0x4ABF_FFFF) / 2 ≡ 0) × (fl ≡ 0)
    none l = (omega (arith, c.0, c.1), omega (arith, c.0, c.1))

-- a difference of two numbers of 31 bits
sub-fits : (n b : ℕ) → n < 2147483648 → b < 2147483648 → mag (sub_ℕ n b) < 2147483648
sub-fits n b h k =
    ⊎_elim
    (λ (l : n < b). subst (λ (z : ℤ). mag z < 2147483648) (sym (sub_below n b l)) under)
    (λ (l : b ≤ n). subst (λ (z : ℤ). mag z < 2147483648) (sym (sub_above n b l)) over)
    (below_or n b)
  where
    under : b - suc n < 2147483648
    under = omega arith

    over : n - b < 2147483648
    over = omega arith

pub diff_fits : (b : Bool) (K : ℕ) → K < 16777216 → mag (pos (1241513984 + K) -ℤ base_by b) < 2147483648
diff_fits true K h = sub-fits (1241513984 + K) 0x4ABF_FFFF (omega arith) (lit< tt)
diff_fits false K h = sub-fits (1241513984 + K) 0x4AC0_0000 (omega arith) (lit< tt)

-- ---- the code's last line: the bits of the sum, less the base, shifted; by the names that the code has for the numbers
module _ (x x' q mid : Float) (p : Product x) (ex : x' ≡ x) (eq : q ≡ quarter p.b) (em : mid ≡ middle) where
  at : Seen p.b (add binary32 (sub binary32 x' q) mid) p.fl
  at = subst (λ (y : Float). Seen p.b y p.fl) (λ i. add binary32 (sub binary32 (sym ex i) (sym eq i)) (sym em i)) p.seen

  pub sum_number : T (not (is_nan (add binary32 (sub binary32 x' q) mid)))
  sum_number = not_nan (add binary32 (sub binary32 x' q) mid) false _ _ at.value

  bits_fit : SFits w32 (pos (to_bits binary32 (add binary32 (sub binary32 x' q) mid)))
  bits_fit = subst (λ (n : ℕ). SFits w32 (pos n)) (sym at.bits) (record { sfits = few at.K at.most })
    where
      few : (K : ℕ) → K < 16777216 → 1241513984 + K < 2147483648
      few K h = omega arith

  module _ (bits base : ℤ) (fb : SFits w32 bits) (fit : SFits w32 base)
      (e : bits ≡ to_z w32 (to_bits binary32 (add binary32 (sub binary32 x' q) mid))) (eb : base ≡ base_by p.b) where
    abbrev apart : ℤ
    apart = to_z w32 (of_z w32 bits) -ℤ to_z w32 (of_z w32 base)

    diff : apart ≡ pos (1241513984 + at.K) -ℤ base_by p.b
    diff = λ i. (to_z-of_z fb ∙ e ∙ to_z-of_z bits_fit ∙ ap pos at.bits) i -ℤ (to_z-of_z fit ∙ eb) i

    pub apart_fits : SFits w32 apart
    apart_fits = subst (λ (z : ℤ). SFits w32 z) (sym diff) (record { sfits = diff_fits p.b at.K at.most })

    pub cut_is : to_z w32 (of_z w32 (shr_z (to_z w32 (of_z w32 apart)) 2)) ≡ cast_i32 x
    cut_is =
        shr_read w32 apart 2 apart_fits.sfits ∙ ap (λ (z : ℤ). shr_z z 2) diff
        ∙ shifted p.b at.K p.fl at.cut at.few at.most ∙ sym p.is
