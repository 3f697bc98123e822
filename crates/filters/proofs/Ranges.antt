-- Numbers in a filter's range: what is read of a list of them and stored into it, and the bounds of their products. Assumes nothing.
use mathlib.Core.Path.{refl, sym, subst}
use mathlib.Core.Bool.{Bool, true, false, ◌&&◌}
use mathlib.Core.List.{List, [], ◌∷◌}
use Prim.Native.Nat.{ℕ, zero, suc, ◌≤◌}
use lib.Dec.{T, leb→le, le→leb}
use lib.IntN.{ℤ, pos, nat_abs, ◌*ℤ◌}
use lib.ListN.{get_or, set}
use lib.Signed.{nat_abs-le}
use mir.Syntax.{w16, w32}
use mir.Val.{SFits, to_z, of_z}
use Rattle.lists.proofs.Bools.{and_left, and_right}
use Rattle.numbers.specs.Within.{Is}
use Rattle.numbers.proofs.Bounds.{is_of, is_read}
use Rattle.filters.specs.Range.{in_range, all_in_range}

pub both : (x y : Bool) → T x → T y → T (x && y)
both true y s t = t
both false y s t = absurd s

-- ---- a number

bound : (z : ℤ) → T (in_range z) → nat_abs z ≤ 32768
unfolding in_range
bound z t = leb→le (nat_abs z) 32768 t

bounded : (z : ℤ) → nat_abs z ≤ 32768 → T (in_range z)
unfolding in_range
bounded z h = le→leb (nat_abs z) 32768 h

pub ranged : (z : ℤ) → T (in_range z) → Is 32768 z z
ranged z t = record { is = refl; abs = bound z t }

-- a number of 16 bits is in range
pub sample_range : (z : ℤ) → SFits w16 z → T (in_range z)
sample_range z f = bounded z (nat_abs-le z f.sfits)

pub zero_range : T (in_range (pos 0))
zero_range = bounded (pos 0) (leb→le 0 32768 tt)

-- a number in range, known by a wider bound
pub narrow : {A : ℕ} {z x : ℤ} → T (in_range z) → Is A z x → Is 32768 z x
narrow {A} {z} {x} t h = record { is = h.is; abs = subst (λ (y : ℤ). nat_abs y ≤ 32768) (sym h.is) (bound z t) }

-- ---- a coefficient or a value handed on

abbrev P32 : ℤ → ℤ
P32 x = to_z w32 (of_z w32 x)

pub handed : {z x : ℤ} → Is 32768 z x → T (in_range (P32 x))
handed {z} {x} h = bounded (P32 x) (is_read w32 h tt).abs

-- the product that a callee gave of two of them
pub product_of : {a b x y r : ℤ} {A : ℕ} → Is 32768 a x → Is 32768 b y → Is A (P32 x *ℤ P32 y) r → Is A (a *ℤ b) r
product_of h k p = is_of (λ i. (is_read w32 h tt).is i *ℤ (is_read w32 k tt).is i) p

-- ---- a list

pub all_at : (zs : List ℤ) (i : ℕ) → T (all_in_range zs) → T (in_range (get_or zs i (pos 0)))
all_at [] i t = zero_range
all_at (z ∷ zs) zero t = and_left (in_range z) (all_in_range zs) t
all_at (z ∷ zs) (suc i) t = all_at zs i (and_right (in_range z) (all_in_range zs) t)

pub all_set : (zs : List ℤ) (i : ℕ) (v : ℤ) → T (all_in_range zs) → T (in_range v) → T (all_in_range (set zs i v))
all_set [] i v t h = tt
all_set (z ∷ zs) zero v t h = both (in_range v) (all_in_range zs) h (and_right (in_range z) (all_in_range zs) t)
all_set (z ∷ zs) (suc i) v t h =
    both (in_range z) (all_in_range (set zs i v)) (and_left (in_range z) (all_in_range zs) t)
    (all_set zs i v (and_right (in_range z) (all_in_range zs) t) h)
