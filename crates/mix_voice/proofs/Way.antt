-- What the tests of a gain say, and that a gain on its way from one of at most 16 to another stays within 48, as rounding keeps a bound
-- that is a whole number. Assumes nothing.
use mathlib.Core.Path.{◌≡◌, refl, sym}
use mathlib.Core.Bool.{true, false, ◌||◌, true≢false}
use Prim.Native.Nat.{ℕ, ◌+◌, ◌*◌, ◌^◌, ◌≤◌, ◌<◌}
use native.Mathlib.Nat.{le_trans, mul-one, one-mul, mul-le-mul_right, zero-lt-suc}
use native.Mathlib.Omega.{arith}
use lib.IntN.{ℤ, pos}
use lib.Dec.{eqb, eqb→eq, lit<, lit≤}
use lib.Ieee.{Float, nan, inf, fin, binary32, of_bits, up, down, unlike, neg, add, sub, mul, div, of_int, lt, le, eq}
use lib.Ieee.Fits.{down_pos}
use Rattle.lists.proofs.Bools.{and_both}
use Rattle.numbers.specs.Casts.{single}
use Rattle.numbers.proofs.Reach.{Reach, of_value, round_reach, add_reach, mul_reach}
use Rattle.numbers.proofs.Value.{int_value}
use Rattle.mixing.specs.Gain.{progress, at_gain, fading}
use Rattle.mix_voice.specs.Quick.{QUICK_GAIN, FADING_GAIN, within, Around}
use Rattle.mix_voice.proofs.Product.{le_means}

-- ---- the code's literal
pub sixteen : of_bits binary32 0x4180_0000 ≡ FADING_GAIN
unfolding of_bits
sixteen = refl

-- ---- what the tests of a gain say
at_one : (p n q : ℕ) → p * 1 ≤ 1 * n * q → p ≤ n * q
at_one p n q h = rw (mul-one p, one-mul n) at h

pub around_power : (h : ℕ) (g : Float) → within (fin false 1 (pos h)) g ≡ true → Around (2 ^ h) g
unfolding within neg le lt eq
around_power h nan e = true≢false (sym e)
around_power h (inf true) e = true≢false (sym e)
around_power h (inf false) e = true≢false (sym e)
around_power h (fin true m d) e =
    let p = m * up d * 1 in
    let q = 1 * 2 ^ h * down d in
    at_one (m * up d) (2 ^ h) (down d)
    (le_means p q (eqb q p) (true || eqb q 0) (λ t. sym (eqb→eq q p t))
    (and_both (le (fin true 1 (pos h)) (fin true m d)) (le (fin true m d) (fin false 1 (pos h))) e).0)
around_power h (fin false m d) e =
    let p = m * up d * 1 in
    let q = 1 * 2 ^ h * down d in
    at_one (m * up d) (2 ^ h) (down d)
    (le_means p q (eqb p q) (true || eqb p 0) (eqb→eq p q)
    (and_both (le (fin true 1 (pos h)) (fin false m d)) (le (fin false m d) (fin false 1 (pos h))) e).1)

-- ---- the two names of a bound
around : (x : Float) (c k : ℕ) → Reach x c → c ≤ k → Around k x
around nan c k h l = h
around (inf s) c k h l = h
around (fin s m e) c k h l = le_trans h (mul-le-mul_right (down e) l)

reach : (x : Float) (c : ℕ) → Around c x → Reach x c
reach nan c h = h
reach (inf s) c h = h
reach (fin s m e) c h = h

pub steady_around : (g : Float) → within QUICK_GAIN g ≡ true → Around 63 g
steady_around g h = around g 32 63 (reach g 32 (around_power 5 g h)) (lit≤ tt)

-- ---- bounds on the way
neg_reach : (x : Float) (c : ℕ) → Reach x c → Reach (neg x) c
unfolding neg
neg_reach nan c h = h
neg_reach (inf s) c h = h
neg_reach (fin s m e) c h = h

change_reach : (from to : Float) (a b : ℕ) → Reach from a → Reach to b → b + a < 2 ^ 24 → Reach (sub binary32 to from) (b + a)
unfolding sub
change_reach from to a b h k l = add_reach binary32 to (neg from) b a k (neg_reach from a h) l

last_is : single (pos 159) ≡ fin false 159 (pos 0)
unfolding of_int
last_is = refl

by_159 : (x : Float) → Reach x 159 → Reach (div binary32 x (fin false 159 (pos 0))) 1
unfolding div
by_159 nan h = absurd h
by_159 (inf s) h = absurd h
by_159 (fin s m e) h =
    round_reach binary32 (unlike s false) (m * up e * 1) (159 * 1 * down e) 1 (some (down e) (down_pos e)) (tidy (m * up e) (down e) h)
    (lit< tt)
  where
    some : (d : ℕ) → 0 < d → 0 < 159 * 1 * d
    some d h = omega arith

    tidy : (n d : ℕ) → n ≤ 159 * d → n * 1 ≤ 1 * (159 * 1 * d)
    tidy n d h = omega arith

pub progress_reach : (i : ℕ) → i < 160 → Reach (progress i) 1
progress_reach i h =
    rw last_is (by_159 (single (pos i))
    (of_value (single (pos i)) false i 1 159 (zero-lt-suc 0) (int_value binary32 (pos i) few) few'))
  where
    few : i ≤ 16777216
    few = omega arith

    few' : i ≤ 159 * 1
    few' = omega arith

module _ (from to : Float) (i : ℕ) (less : i < 160) where
  -- what is added, and the gain
  abbrev step : Float
  step = mul binary32 (sub binary32 to from) (progress i)

  abbrev pub way : Float
  way = add binary32 from (mul binary32 (sub binary32 to from) (progress i))

  pub way_around : within FADING_GAIN from ≡ true → within FADING_GAIN to ≡ true → Around 63 way
  way_around h k =
      let f = reach from 16 (around_power 4 from h) in
      let t = reach to 16 (around_power 4 to k) in
      around way 48 63
      (add_reach binary32 from step 16 32 f
      (mul_reach binary32 (sub binary32 to from) (progress i) 32 1 (change_reach from to 16 16 f t (lit< tt)) (progress_reach i less)
      (lit< tt))
      (lit< tt))
      (lit≤ tt)

  -- the definition's fade is the part at that gain
  pub fading_is : (v : ℤ) → at_gain way v ≡ fading from to i v
  unfolding at_gain fading
  fading_is v = refl
