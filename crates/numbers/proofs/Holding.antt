-- A float held to what 16 bits reach is small, and its whole part with the sign back is the cast clamped to 16 bits. By the kinds of float.
-- Assumes nothing.
use Rattle.std.proofs.Common.{◌≡◌, ℕ, zero, suc, ◌+◌, ◌-◌, ◌*◌, ◌/◌, ◌^◌, ◌<◌, ◌≤◌, min, Bool, true, false, T, ltb, ℤ, pos, negsuc, neg_ℤ}
use Rattle.std.proofs.Common.{nat_abs, sym, refl, ap, ◌∙◌, subst, ⊎_elim, true≢false, lt_of_lt_of_le, le_trans, mul-le-mul_right, pow_mono}
use Rattle.std.proofs.Common.{div-lt_iff_lt-mul, le-div_iff_mul-le, arith, lit≤, le→leb, lt→ltb, ltb-false, ltb-true, le-ltb, lt-ltb}
use Rattle.std.proofs.Common.{eq-eqb}
use native.Mathlib.Nat.{zero-div}
use lib.Signed.{mag}
use lib.Ieee.Back.{positive_back, negative_back}
use Rattle.numbers.proofs.Floor.{Floored, floored, sub_whole}
use lib.Ieee.{Float, nan, inf, fin, Format, prec, up, down, lt, eq, neg, add, sub, of_int, in_signed, in_float, to_signed, to_unsigned}
use lib.Ieee.Fits.{down_pos}
use Rattle.lists.proofs.Walk.{below_or}
use Rattle.numbers.specs.Literals.{+0, +1}
use Rattle.numbers.specs.Held.{top, bottom, at_most, at_least, held, size_of, Upto, Small, whole_of, with_sign, at_least_0, top_u32}
use Rattle.numbers.specs.Within.{Is}
use Rattle.numbers.specs.Reals.{Shape}
use Rattle.numbers.specs.Wrap.{clamp16}
use Rattle.lists.proofs.Bools.{cond_yes, cond_no}
use Rattle.std.specs.Prelude.{if◌then◌else◌}

clamp_pos : (k : ℕ) → k ≤ 32767 → clamp16 (pos k) ≡ pos k
clamp_pos k h = rw (le-ltb 32767 k h)

clamp_over : (k : ℕ) → 32767 ≤ k → clamp16 (pos k) ≡ pos 32767
clamp_over k h = go (ltb 32767 k) refl
  where
    go : (b : Bool) → ltb 32767 k ≡ b → clamp16 (pos k) ≡ pos 32767
    go true e = rw e
    go false e = rw e (ap pos same)
      where
        same : k ≡ 32767
        same = omega (arith, ltb-false 32767 k e)

clamp_neg : (k : ℕ) → k ≤ 32768 → clamp16 (neg_ℤ (pos k)) ≡ neg_ℤ (pos k)
clamp_neg zero h = refl
clamp_neg (suc n) h = rw (le-ltb 32767 n few)
  where
    few : n ≤ 32767
    few = omega arith

clamp_under : (k : ℕ) → 32768 ≤ k → clamp16 (neg_ℤ (pos k)) ≡ negsuc 32767
clamp_under zero h = absurd none
  where
    none : ⊥
    none = omega arith
clamp_under (suc n) h = go (ltb 32767 n) refl
  where
    go : (b : Bool) → ltb 32767 n ≡ b → clamp16 (negsuc n) ≡ negsuc 32767
    go true e = rw e
    go false e = rw e (ap negsuc same)
      where
        same : n ≡ 32767
        same = omega (arith, ltb-false 32767 n e)

-- what the cast goes by
pub record Holds (x : Float) : Type 0 where
  pub small : Small (size_of (held x))
  pub is : with_sign (held x) (pos (whole_of (size_of (held x)))) ≡ clamp16 (to_signed 31 x)

from : (x z a : Float) → held x ≡ z → size_of z ≡ a → Small a → with_sign z (pos (whole_of a)) ≡ clamp16 (to_signed 31 x) → Holds x
from x z a h s small is = record {
  small = subst Small (sym (ap size_of h ∙ s)) small;
  is = ap (λ (y : Float). with_sign y (pos (whole_of (size_of y)))) h ∙ ap (λ (b : Float). with_sign z (pos (whole_of b))) s ∙ is;
}

bottom_under_top : lt bottom top ≡ true
unfolding lt
bottom_under_top = refl

top_size : size_of top ≡ top
unfolding lt
top_size = refl

bottom_size : size_of bottom ≡ fin false 1 (pos 15)
unfolding lt neg
bottom_size = refl

top_signed : with_sign top (pos 32767) ≡ pos 32767
unfolding lt
top_signed = refl

bottom_signed : with_sign bottom (pos 32768) ≡ negsuc 32767
unfolding lt
bottom_signed = refl

-- the tests, on p / q
module _ (m : ℕ) (e : ℤ) where
  abbrev p : ℕ
  p = m * up e

  abbrev q : ℕ
  q = down e

  itself : (s : Bool) → eq (fin s m e) (fin s m e) ≡ true
  unfolding eq
  itself true = rw (eq-eqb (p * q) (p * q) refl)
  itself false = rw (eq-eqb (p * q) (p * q) refl)

  under_top : ltb (p * 1) (32767 * 1 * q) ≡ lt (fin false m e) top
  unfolding lt
  under_top = refl

  negative_under_top : lt (fin true m e) top ≡ true
  unfolding lt
  negative_under_top = lt-ltb 0 (p * 1 + 32767 * 1 * q) (omega (arith, down_pos e))

  above_bottom : lt bottom (fin false m e) ≡ true
  unfolding lt
  above_bottom = lt-ltb 0 (1 * 2 ^ 15 * q + p * 1) (omega (arith, down_pos e))

  negative_above_bottom : ltb (p * 1) (1 * 2 ^ 15 * q) ≡ lt bottom (fin true m e)
  unfolding lt
  negative_above_bottom = refl

  not_negative : lt (fin false m e) +0 ≡ false
  unfolding lt
  not_negative = le-ltb (p * 1) (0 * 1 * q) (omega arith)

  negative : ltb 0 (p * 1 + 0 * 1 * q) ≡ lt (fin true m e) +0
  unfolding lt
  negative = refl

  positive_case : (b : Bool) → lt (fin false m e) top ≡ b → Holds (fin false m e)
  unfolding held to_signed
  positive_case true h =
      let k : p * 1 < 32767 * 1 * q = ltb-true (p * 1) (32767 * 1 * q) (under_top ∙ h) in
      let r : p / q < 32767 = (div-lt_iff_lt-mul (down_pos e)).1 (omega arith) in
      let i : min (p / q) 2147483647 ≡ p / q = omega arith in
      from (fin false m e) (fin false m e) (fin false m e) (rw (itself false, h, above_bottom)) (rw not_negative)
      ((λ (u : false ≡ true). absurd (true≢false (sym u))), omega arith)
      (rw (not_negative, i) (sym (clamp_pos (p / q) (omega arith))))
  positive_case false h =
      let k : 32767 * 1 * q ≤ p * 1 = ltb-false (p * 1) (32767 * 1 * q) (under_top ∙ h) in
      let r : 32767 ≤ p / q = (le-div_iff_mul-le (down_pos e)).1 (omega arith) in
      let i : 32767 ≤ min (p / q) 2147483647 = omega arith in
      from (fin false m e) top top (rw (itself false, h, bottom_under_top)) top_size
      ((λ (u : false ≡ true). absurd (true≢false (sym u))), omega arith)
      (top_signed ∙ sym (clamp_over (min (p / q) 2147483647) i))

  negative_case : (b c : Bool) → lt bottom (fin true m e) ≡ b → lt (fin true m e) +0 ≡ c → Holds (fin true m e)
  unfolding held to_signed neg
  negative_case true true h g =
      let k : p * 1 < 1 * 2 ^ 15 * q = ltb-true (p * 1) (1 * 2 ^ 15 * q) (negative_above_bottom ∙ h) in
      let r : p / q < 32768 = (div-lt_iff_lt-mul (down_pos e)).1 (omega arith) in
      let i : min (p / q) 2147483648 ≡ p / q = omega arith in
      from (fin true m e) (fin true m e) (fin false m e) (rw (itself true, negative_under_top, h)) (rw g)
      ((λ (u : false ≡ true). absurd (true≢false (sym u))), omega arith)
      (rw (g, i) (sym (clamp_neg (p / q) (omega arith))))
  negative_case true false h g =
      let k : p * 1 + 0 * 1 * q ≤ 0 = ltb-false 0 (p * 1 + 0 * 1 * q) (negative ∙ g) in
      let z : p ≡ 0 = omega arith in
      let r : p / q ≡ 0 = ap (λ (n : ℕ). n / q) z ∙ zero-div q in
      from (fin true m e) (fin true m e) (fin true m e) (rw (itself true, negative_under_top, h)) (rw g)
      ((λ (u : true ≡ true). z), omega arith)
      (rw (g, r))
  negative_case false c h g =
      let k : 1 * 2 ^ 15 * q ≤ p * 1 = ltb-false (p * 1) (1 * 2 ^ 15 * q) (negative_above_bottom ∙ h) in
      let r : 32768 ≤ p / q = (le-div_iff_mul-le (down_pos e)).1 (omega arith) in
      let i : 32768 ≤ min (p / q) 2147483648 = omega arith in
      from (fin true m e) bottom (fin false 1 (pos 15)) (rw (itself true, negative_under_top, h)) bottom_size
      ((λ (u : false ≡ true). absurd (true≢false (sym u))), omega arith)
      (bottom_signed ∙ sym (clamp_under (min (p / q) 2147483648) i))

pub holds : (x : Float) → Holds x
unfolding held lt eq neg to_signed
holds nan = from nan +0 +0 refl refl ((λ (u : false ≡ true). refl), lit≤ tt) refl
holds (inf true) =
    from (inf true) bottom (fin false 1 (pos 15)) refl refl ((λ (u : false ≡ true). absurd (true≢false (sym u))), lit≤ tt) refl
holds (inf false) = from (inf false) top top refl refl ((λ (u : false ≡ true). absurd (true≢false (sym u))), lit≤ tt) refl
holds (fin false m e) = positive_case m e (lt (fin false m e) top) refl
holds (fin true m e) = negative_case m e (lt bottom (fin true m e)) (lt (fin true m e) +0) refl refl

-- what the code holds, by its own tests
pub held_number :
    (x high low most within : Float) → high ≡ top → low ≡ bottom → most ≡ at_most high x → within ≡ at_least low most → eq x x ≡ true
    → within ≡ held x
unfolding held
held_number x high low most within H L M W t =
    W ∙ (λ i. at_least (L i) ((M ∙ ap (λ (b : Float). at_most b x) H) i)) ∙ sym (cond_yes (at_least bottom (at_most top x)) +0 t)

pub held_none : (x none : Float) → none ≡ +0 → eq x x ≡ false → none ≡ held x
unfolding held
held_none x none Z t = Z ∙ sym (cond_no (at_least bottom (at_most top x)) +0 t)

-- the cast to 32 bits, clamped to 16, is the cast to 16
pub clamped_cast : (x : Float) → clamp16 (to_signed 31 x) ≡ to_signed 15 x
unfolding to_signed
clamped_cast nan = refl
clamped_cast (inf true) = refl
clamped_cast (inf false) = refl
clamped_cast (fin false m e) = ⊎_elim few many (below_or (m * up e / down e) 32767)
  where
    few : m * up e / down e < 32767 → clamp16 (pos (min (m * up e / down e) 2147483647)) ≡ pos (min (m * up e / down e) 32767)
    few h =
        let i : min (m * up e / down e) 2147483647 ≡ min (m * up e / down e) 32767 = omega arith in
        clamp_pos (min (m * up e / down e) 2147483647) (omega arith) ∙ ap pos i

    many : 32767 ≤ m * up e / down e → clamp16 (pos (min (m * up e / down e) 2147483647)) ≡ pos (min (m * up e / down e) 32767)
    many h =
        let i : 32767 ≡ min (m * up e / down e) 32767 = omega arith in
        clamp_over (min (m * up e / down e) 2147483647) (omega arith) ∙ ap pos i
clamped_cast (fin true m e) = ⊎_elim few many (below_or (m * up e / down e) 32768)
  where
    few :
        m * up e / down e < 32768
        → clamp16 (neg_ℤ (pos (min (m * up e / down e) 2147483648))) ≡ neg_ℤ (pos (min (m * up e / down e) 32768))
    few h =
        let i : min (m * up e / down e) 2147483648 ≡ min (m * up e / down e) 32768 = omega arith in
        clamp_neg (min (m * up e / down e) 2147483648) (omega arith) ∙ ap (λ (k : ℕ). neg_ℤ (pos k)) i

    many :
        32768 ≤ m * up e / down e → clamp16 (neg_ℤ (pos (min (m * up e / down e) 2147483648))) ≡ neg_ℤ (pos (min (m * up e / down e) 32768))
    many h =
        let i : 32768 ≡ min (m * up e / down e) 32768 = omega arith in
        clamp_under (min (m * up e / down e) 2147483648) (omega arith) ∙ ap (λ (k : ℕ). neg_ℤ (pos k)) i

-- ---- to 32 bits with no sign: held from 0 to 4294967295
record HoldsU (x : Float) : Type 0 where
  pub upto : Upto 4294967295 (at_most top_u32 (at_least_0 x))
  pub is : whole_of (at_most top_u32 (at_least_0 x)) ≡ to_unsigned 32 x

from_u : (x z : Float) → at_most top_u32 (at_least_0 x) ≡ z → Upto 4294967295 z → whole_of z ≡ to_unsigned 32 x → HoldsU x
from_u x z h u is = record { upto = subst (λ (a : Float). Upto 4294967295 a) (sym h) u; is = ap (λ (a : Float). whole_of a) h ∙ is }

zero_held : at_most top_u32 +0 ≡ +0
unfolding lt
zero_held = refl

module _ (m : ℕ) (e : ℤ) where
  above_zero : ltb (0 * 1 * down e) (m * up e * 1) ≡ lt +0 (fin false m e)
  unfolding lt
  above_zero = refl

  under_top_u32 : ltb (m * up e * 1) (4294967295 * 1 * down e) ≡ lt (fin false m e) top_u32
  unfolding lt
  under_top_u32 = refl

  positive_u : (b c : Bool) → lt +0 (fin false m e) ≡ b → lt (fin false m e) top_u32 ≡ c → HoldsU (fin false m e)
  unfolding to_unsigned
  positive_u false c h g =
      let k : m * up e * 1 ≤ 0 * 1 * down e = ltb-false (0 * 1 * down e) (m * up e * 1) (above_zero ∙ h) in
      let z : m * up e ≡ 0 = omega arith in
      let r : m * up e / down e ≡ 0 = ap (λ (n : ℕ). n / down e) z ∙ zero-div (down e) in
      from_u (fin false m e) +0 (rw h zero_held) ((λ (u : false ≡ true). refl), lit≤ tt) (rw r)
  positive_u true true h g =
      let k : m * up e * 1 < 4294967295 * 1 * down e = ltb-true (m * up e * 1) (4294967295 * 1 * down e) (under_top_u32 ∙ g) in
      let r : m * up e / down e < 4294967295 = (div-lt_iff_lt-mul (down_pos e)).1 (omega arith) in
      let i : m * up e / down e ≡ min (m * up e / down e) 4294967295 = omega arith in
      from_u (fin false m e) (fin false m e) (rw (h, g)) ((λ (u : false ≡ true). absurd (true≢false (sym u))), omega arith) i
  positive_u true false h g =
      let k : 4294967295 * 1 * down e ≤ m * up e * 1 = ltb-false (m * up e * 1) (4294967295 * 1 * down e) (under_top_u32 ∙ g) in
      let r : 4294967295 ≤ m * up e / down e = (le-div_iff_mul-le (down_pos e)).1 (omega arith) in
      let i : 4294967295 ≡ min (m * up e / down e) 4294967295 = omega arith in
      from_u (fin false m e) top_u32 (rw (h, g)) ((λ (u : false ≡ true). absurd (true≢false (sym u))), lit≤ tt) i

holds_u : (x : Float) → HoldsU x
unfolding lt to_unsigned
holds_u nan = from_u nan +0 refl ((λ (u : false ≡ true). refl), lit≤ tt) refl
holds_u (inf true) = from_u (inf true) +0 refl ((λ (u : false ≡ true). refl), lit≤ tt) refl
holds_u (inf false) = from_u (inf false) top_u32 refl ((λ (u : false ≡ true). absurd (true≢false (sym u))), lit≤ tt) refl
holds_u (fin true m e) = from_u (fin true m e) +0 refl ((λ (u : false ≡ true). refl), lit≤ tt) refl
holds_u (fin false m e) = positive_u m e (lt +0 (fin false m e)) (lt (fin false m e) top_u32) refl refl

pub upto_u32 : (x : Float) → Upto 4294967295 (at_most top_u32 (at_least_0 x))
upto_u32 x = (holds_u x).upto

pub whole_u32_is : (x : Float) → whole_of (at_most top_u32 (at_least_0 x)) ≡ to_unsigned 32 x
whole_u32_is x = (holds_u x).is

-- ---- through floats of either format
module _ {f : Format} {h M : ℕ} (t : Shape f h M) where
  -- 16 bits and the whole parts fit the digits of the format
  room : M + 1 < 2 ^ prec f
  room = lt_of_lt_of_le t.reach_lt (pow_mono {i = h} {j = prec f} (subst (λ (n : ℕ). h ≤ n) (sym t.prec_is) (le_suc h)))
    where
      le_suc : (n : ℕ) → n ≤ suc n
      le_suc n = omega arith

  -- a number of 16 bits as a float and back
  pub signed_back : (z : ℤ) → mag z < 2 ^ 15 → T (in_signed f 15 (of_int f z)) × (to_signed 15 (of_int f z) ≡ z)
  unfolding in_float
  signed_back (pos n) l = positive_back f 15 n (le→leb n (2 ^ prec f) (omega (arith, room, t.reach_ge))) l
  signed_back (negsuc k) l = negative_back f 15 k (lt→ltb k (2 ^ prec f) (omega (arith, room, t.reach_ge))) (omega arith)

  -- the size of what is held has a whole part that is found
  pub wide_enough : (a : Float) → Small a → Upto M a
  wide_enough nan u = u
  wide_enough (inf s) u = u
  wide_enough (fin s m e) u = (u.0, le_trans u.1 (mul-le-mul_right (down e) t.reach_ge))

  -- and one that 16 bits hold
  few_whole : (a : Float) → Small a → whole_of a ≤ 32768
  few_whole nan u = absurd u
  few_whole (inf s) u = absurd u
  few_whole (fin s m e) u =
      let k : m * up e / down e < 32769 = (div-lt_iff_lt-mul (down_pos e)).1 (omega (arith, u.1, down_pos e)) in
      omega arith

  whole_back :
      (a : Float) → Small a
      → T (in_signed f 31 (of_int f (pos (whole_of a)))) × (to_signed 31 (of_int f (pos (whole_of a))) ≡ pos (whole_of a))
  unfolding in_float
  whole_back a u =
      let l : whole_of a ≤ 32768 = few_whole a u in
      positive_back f 31 (whole_of a) (le→leb (whole_of a) (2 ^ prec f) (omega (arith, room, t.reach_ge))) (omega arith)

  pub whole_in : (a y : Float) → Small a → y ≡ of_int f (pos (whole_of a)) → T (in_signed f 31 y)
  whole_in a y u Y = subst (λ (y : Float). T (in_signed f 31 y)) (sym Y) (whole_back a u).0

  pub whole_cast : (a y : Float) (n : ℤ) → Small a → y ≡ of_int f (pos (whole_of a)) → n ≡ to_signed 31 y → Is 32768 (pos (whole_of a)) n
  whole_cast a y n u Y N =
      let e = N ∙ ap (to_signed 31) Y ∙ (whole_back a u).1 in
      record { is = e; abs = subst (λ (z : ℤ). nat_abs z ≤ 32768) (sym e) (few_whole a u) }

  -- the whole part by two additions, and one off where that lies above
  module _ (a b n o : Float) (u : Upto M a) (B : b ≡ fin false 1 (pos h)) (N : n ≡ sub f (add f a b) b)
      (O : o ≡ (if lt a n then +1 else +0)) where
    abbrev l : Floored f h M a
    l = floored f h t.prec_is t.digits_le_emax M t.reach_lt a u

    near_is : n ≡ of_int f (pos l.k)
    near_is = N ∙ (λ i. sub f (add f a (B i)) (B i)) ∙ l.is

    few : l.k ≤ 2 ^ prec f
    few = omega (arith, l.most, room)

    lowered : (c : Bool) → lt a n ≡ c → sub f n (if c then +1 else +0) ≡ of_int f (pos (whole_of a))
    lowered true c =
        let one_more : l.k ≡ whole_of a + 1 = l.over (ap (lt a) (sym near_is) ∙ c) in
        let same : l.k - 1 ≡ whole_of a = omega arith in
        ap (λ (x : Float). sub f x +1) near_is ∙ sub_whole f l.k 1 +1 few (omega arith) (refl, refl)
        ∙ ap (λ (x : ℕ). of_int f (pos x)) same
    lowered false c =
        let as_it_is : l.k ≡ whole_of a = l.not_over (ap (lt a) (sym near_is) ∙ c) in
        let same : l.k - 0 ≡ whole_of a = omega arith in
        ap (λ (x : Float). sub f x +0) near_is ∙ sub_whole f l.k 0 +0 few (omega arith) (refl, refl)
        ∙ ap (λ (x : ℕ). of_int f (pos x)) same

    pub whole_is : sub f n o ≡ of_int f (pos (whole_of a))
    whole_is = ap (sub f n) O ∙ lowered (lt a n) refl

-- the size of what is held, by the names that the code has for it
pub small_size : (x z a : Float) → z ≡ held x → a ≡ size_of z → Small a
small_size x z a Z A = subst Small (sym (A ∙ ap (λ (z : Float). size_of z) Z)) (holds x).small

-- and its whole part with the sign back
pub signed_is :
    (x z a : Float) (n : ℤ) → z ≡ held x → a ≡ size_of z → Is 32768 (pos (whole_of a)) n → with_sign z n ≡ clamp16 (to_signed 31 x)
signed_is x z a n Z A N =
    ap (λ (k : ℤ). with_sign z k) (N.is ∙ ap (λ (a : Float). pos (whole_of a)) A)
    ∙ ap (λ (z : Float). with_sign z (pos (whole_of (size_of z)))) Z
    ∙ (holds x).is
