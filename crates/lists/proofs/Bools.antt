-- Laws of `&&` and `||` at a test whose value is known, and of a chain of tests. Assumes nothing.
use mathlib.Core.Path.{◌≡◌, refl, ap}
use Prim.Native.Nat.{ℕ, suc}
use native.Mathlib.Omega.{arith}
use mathlib.Core.Bool.{Bool, true, false, not, ◌&&◌, ◌||◌, cond}
use mathlib.Core.Logic.{◌⊎◌, inl, inr}
use lib.Dec.{T}

pub and_no : {x : Bool} (y : Bool) → x ≡ false → (x && y) ≡ false
and_no y e = ap (λ (b : Bool). b && y) e

pub and_yes : {x : Bool} (y : Bool) → x ≡ true → (x && y) ≡ y
and_yes y e = ap (λ (b : Bool). b && y) e

pub and_not : (x : Bool) {y : Bool} → y ≡ false → (x && y) ≡ false
and_not true e = e
and_not false e = refl

pub or_no : {x : Bool} (y : Bool) → x ≡ false → (x || y) ≡ y
or_no y e = ap (λ (b : Bool). b || y) e

pub or_yes : {x : Bool} (y : Bool) → x ≡ true → (x || y) ≡ true
or_yes y e = ap (λ (b : Bool). b || y) e

pub cond_yes : {A : Type 0} {b : Bool} (x y : A) → b ≡ true → cond b x y ≡ x
cond_yes x y e = ap (λ b. cond b x y) e

pub cond_no : {A : Type 0} {b : Bool} (x y : A) → b ≡ false → cond b x y ≡ y
cond_no x y e = ap (λ b. cond b x y) e

pub not_yes : {b : Bool} → b ≡ true → not b ≡ false
not_yes e = ap not e

pub not_no : {b : Bool} → b ≡ false → not b ≡ true
not_no e = ap not e

-- no test both holds and fails
pub clash : true ≡ false → ⊥
clash e = let z : ◌≡◌ {A = ℕ} 0 1 = cc in omega arith

pub and_both : (x y : Bool) → (x && y) ≡ true → (x ≡ true) × (y ≡ true)
and_both true y t = (refl, t)
and_both false y t = (t, clash t)
  where
    clash : {z : Bool} → false ≡ true → z ≡ true
    clash e = cc

pub or_neither : (x y : Bool) → (x || y) ≡ false → (x ≡ false) × (y ≡ false)
or_neither true y f = (f, clash f)
  where
    clash : {z : Bool} → true ≡ false → z ≡ false
    clash e = cc
or_neither false y f = (refl, f)

-- one of two tests passes, or fails
pub or_one : (x y : Bool) → (x || y) ≡ true → (x ≡ true) ⊎ (y ≡ true)
or_one true y t = inl refl
or_one false y t = inr t

pub and_one : (x y : Bool) → (x && y) ≡ false → (x ≡ false) ⊎ (y ≡ false)
and_one true y f = inr f
and_one false y f = inl refl

-- what holds of both holds of the one that is chosen
pub cond_either : {A : Type 0} (P : A → Type 0) (b : Bool) (x y : A) → P x → P y → P (cond b x y)
cond_either P true x y p q = p
cond_either P false x y p q = q

-- a chain of tests, each with a number above 0, that gives 0: the first test failed, and the rest of the chain gives 0
pub passed : (x : Bool) (n rest : ℕ) → cond x (suc n) rest ≡ 0 → (x ≡ false) × (rest ≡ 0)
passed true n rest e = absurd (omega arith)
passed false n rest e = (refl, e)

-- a test that is taken as a fact, and one of two
pub is_true : (b : Bool) → T b → b ≡ true
is_true true t = refl
is_true false t = absurd t

pub and_left : (x y : Bool) → T (x && y) → T x
and_left true y t = tt
and_left false y t = t

pub and_right : (x y : Bool) → T (x && y) → T y
and_right true y t = t
and_right false y t = absurd t
