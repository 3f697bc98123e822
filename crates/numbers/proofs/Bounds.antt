-- How large a sum and a product of whole numbers can be, by their absolute values, so that a bound is one of ℕ and `omega` reads it.
-- Assumes nothing.
use Rattle.std.proofs.Common.{◌≡◌, ℕ, zero, suc, ◌+◌, ◌-◌, ◌*◌, ◌^◌, ◌<◌, ◌≤◌, T, ltb, ℤ, pos, negsuc, ◌+ℤ◌, ◌*ℤ◌, neg_ℤ, nat_abs, sym}
use Rattle.std.proofs.Common.{refl, ap, ◌∙◌, subst, ⊎_elim, le_trans, le_refl, lt_of_le_of_lt, mul-le-mul, arith, ltb→lt, to_z-of_z, SFits}
use Rattle.std.proofs.Common.{to_z, of_z, le-ltb, lt-ltb}
use lib.IntN.{sub_ℕ}
use lib.Signed.{mag, nat_abs-le, shr_z, mag_shr}
use mir.Syntax.{Width}
use mir.Val.{hbits}
use Rattle.numbers.specs.Within.{Is}
use Rattle.lists.proofs.Walk.{below_or}
use Rattle.lists.proofs.Bools.{cond_yes, cond_no}

pub abs_neg : (n : ℕ) → nat_abs (neg_ℤ (pos n)) ≡ n
abs_neg zero = refl
abs_neg (suc n) = refl

pub abs_mul : (a b : ℤ) → nat_abs (a *ℤ b) ≡ nat_abs a * nat_abs b
abs_mul (pos a) (pos b) = refl
abs_mul (pos a) (negsuc b) = abs_neg (a * suc b)
abs_mul (negsuc a) (pos b) = abs_neg (suc a * b)
abs_mul (negsuc a) (negsuc b) = refl

-- a − b of two naturals: below and not below
pub sub_below : (a b : ℕ) → a < b → sub_ℕ a b ≡ negsuc (b - suc a)
sub_below a b h = cond_yes (negsuc (b - suc a)) (pos (a - b)) (lt-ltb a b h)

pub sub_above : (a b : ℕ) → b ≤ a → sub_ℕ a b ≡ pos (a - b)
sub_above a b h = cond_no (negsuc (b - suc a)) (pos (a - b)) (le-ltb a b h)

abs_sub : (a b : ℕ) → nat_abs (sub_ℕ a b) ≤ a + b
abs_sub a b =
    ⊎_elim
    (λ h. subst (λ (z : ℤ). nat_abs z ≤ a + b) (sym (sub_below a b h)) (below h))
    (λ h. subst (λ (z : ℤ). nat_abs z ≤ a + b) (sym (sub_above a b h)) (above h))
    (below_or a b)
  where
    below : a < b → suc (b - suc a) ≤ a + b
    below h = omega arith

    above : b ≤ a → a - b ≤ a + b
    above h = omega arith

abs_add : (a b : ℤ) → nat_abs (a +ℤ b) ≤ nat_abs a + nat_abs b
abs_add (pos a) (pos b) = le_refl (a + b)
abs_add (pos a) (negsuc b) = abs_sub a (suc b)
abs_add (negsuc a) (pos b) = le_trans (abs_sub b (suc a)) (turn a b)
  where
    turn : (a b : ℕ) → b + suc a ≤ suc a + b
    turn a b = omega arith
abs_add (negsuc a) (negsuc b) = both a b
  where
    both : (a b : ℕ) → suc (suc (a + b)) ≤ suc a + suc b
    both a b = omega arith

mag_abs : (z : ℤ) → mag z ≤ nat_abs z
mag_abs (pos n) = le_refl n
mag_abs (negsuc n) = step n
  where
    step : (n : ℕ) → n ≤ suc n
    step n = omega arith

-- ---- a value that is known, with its bound, through the code's operations

pub is_mul : {a b x y : ℤ} {A B : ℕ} → Is A a x → Is B b y → Is (A * B) (a *ℤ b) (x *ℤ y)
is_mul {a} {b} {x} {y} {A} {B} h k = record {
  is = λ i. h.is i *ℤ k.is i;
  abs = subst (λ (n : ℕ). n ≤ A * B) (sym (abs_mul x y)) (mul-le-mul h.abs k.abs);
}

pub is_add : {a b x y : ℤ} {A B : ℕ} → Is A a x → Is B b y → Is (A + B) (a +ℤ b) (x +ℤ y)
is_add {a} {b} {x} {y} {A} {B} h k = record { is = λ i. h.is i +ℤ k.is i; abs = le_trans (abs_add x y) (sums h.abs k.abs) }
  where
    sums : nat_abs x ≤ A → nat_abs y ≤ B → nat_abs x + nat_abs y ≤ A + B
    sums h k = omega arith

-- a bound that a width holds; at a bound that is a number the test is `tt`
pub is_fits : (w : Width) {z x : ℤ} {A : ℕ} → Is A z x → T (ltb A (2 ^ hbits w)) → SFits w x
is_fits w {z} {x} {A} h k = record { sfits = lt_of_le_of_lt (le_trans (mag_abs x) h.abs) (ltb→lt A (2 ^ hbits w) k) }

-- what the code reads of a local is what was put there
pub is_read : (w : Width) {z x : ℤ} {A : ℕ} → Is A z x → T (ltb A (2 ^ hbits w)) → Is A z (to_z w (of_z w x))
is_read w {z} {x} {A} h k = subst (λ (y : ℤ). Is A z y) (sym (to_z-of_z (is_fits w h k))) h

-- a number widened by `From`, with the bound of its own type
pub is_wide : {w : Width} {z x : ℤ} → SFits w z → x ≡ to_z w (of_z w z) → Is (2 ^ hbits w) z x
is_wide {w} {z} {x} h e = record {
  is = e ∙ to_z-of_z h;
  abs = subst (λ (y : ℤ). nat_abs y ≤ 2 ^ hbits w) (sym (e ∙ to_z-of_z h)) (nat_abs-le z h.sfits);
}

-- a number of the program's own
pub is_pos : (n : ℕ) → Is n (pos n) (pos n)
is_pos n = record { is = refl; abs = le_refl n }

-- the same number by another name
pub is_of : {y z x : ℤ} {A : ℕ} → z ≡ y → Is A z x → Is A y x
is_of e h = record { is = h.is ∙ e; abs = h.abs }

-- a call's result as the code reads it
pub result_read : (w : Width) (z : ℤ) → mag z < 2 ^ hbits w → to_z w (of_z w z) ≡ z
result_read w z h = to_z-of_z (record { sfits = h })

-- a shift to the right of such a result
pub shr_read : (w : Width) (z : ℤ) (m : ℕ) → mag z < 2 ^ hbits w → to_z w (of_z w (shr_z (to_z w (of_z w z)) m)) ≡ shr_z z m
shr_read w z m h =
    to_z-of_z (record {
      sfits = lt_of_le_of_lt (mag_shr (to_z w (of_z w z)) m)
          (subst (λ (y : ℤ). mag y < 2 ^ hbits w) (sym (result_read w z h)) h);
    })
    ∙ ap (λ (y : ℤ). shr_z y m) (result_read w z h)
