-- Sums that wrap: wrapping in between makes no difference, since it keeps the remainder by 2 ^ 32, so wrapped sums may be taken in any
-- order and grouping. Assumes nothing.
use Rattle.std.proofs.Common.{◌≡◌, ℕ, suc, ◌+◌, ◌-◌, ◌%◌, ◌<◌, ◌≤◌, ℤ, pos, negsuc, ◌+ℤ◌, sym, ap, ◌∙◌, ⊎_elim, arith, le-ltb, lt-ltb}
use lib.IntN.{sub_ℕ, +ℤ_comm, +ℤ_assoc}
use Rattle.lists.proofs.Walk.{below_or}
use Rattle.lists.proofs.Bools.{cond_yes, cond_no}
use Rattle.numbers.specs.Wrap.{mod_z, signed32, wrap32}
use Rattle.numbers.proofs.Bounds.{sub_below, sub_above}
use Rattle.numbers.proofs.Wraps.{mod-lt}

abbrev M : ℕ
M = 4294967296

-- reading as signed keeps the remainder
mod_signed : (k : ℕ) → k < M → mod_z (signed32 k) M ≡ k
mod_signed k h =
    ⊎_elim
    (λ l. ap (λ (z : ℤ). mod_z z M) (cond_yes (pos k) (negsuc (4294967295 - k)) (lt-ltb k 2147483648 l)) ∙ low l)
    (λ l. ap (λ (z : ℤ). mod_z z M) (cond_no (pos k) (negsuc (4294967295 - k)) (le-ltb k 2147483648 l)) ∙ high l)
    (below_or k 2147483648)
  where
    low : k < 2147483648 → k % 4294967296 ≡ k
    low l = omega arith

    high : 2147483648 ≤ k → 4294967296 - suc ((4294967295 - k) % 4294967296) ≡ k
    high l = omega arith

pub mod_wrap : (z : ℤ) → mod_z (wrap32 z) M ≡ mod_z z M
mod_wrap z = mod_signed (mod_z z M) (mod-lt z)

-- the remainder of a difference of two naturals, and of a sum
mod_sub : (a b : ℕ) → mod_z (sub_ℕ a (suc b)) M ≡ (a % M + (M - suc (b % M))) % M
mod_sub a b =
    ⊎_elim
    (λ l. ap (λ (z : ℤ). mod_z z M) (sub_below a (suc b) l) ∙ below l)
    (λ l. ap (λ (z : ℤ). mod_z z M) (sub_above a (suc b) l) ∙ above l)
    (below_or a (suc b))
  where
    below :
        a < suc b → 4294967296 - suc ((suc b - suc a) % 4294967296) ≡ (a % 4294967296 + (4294967296 - suc (b % 4294967296))) % 4294967296
    below l = omega arith

    above : suc b ≤ a → (a - suc b) % 4294967296 ≡ (a % 4294967296 + (4294967296 - suc (b % 4294967296))) % 4294967296
    above l = omega arith

pub mod_add : (a b : ℤ) → mod_z (a +ℤ b) M ≡ (mod_z a M + mod_z b M) % M
mod_add (pos a) (pos b) = both a b
  where
    both : (a b : ℕ) → (a + b) % 4294967296 ≡ (a % 4294967296 + b % 4294967296) % 4294967296
    both a b = omega arith
mod_add (pos a) (negsuc b) = mod_sub a b
mod_add (negsuc a) (pos b) = mod_sub b a ∙ turn a b
  where
    turn :
        (a b : ℕ) → (b % 4294967296 + (4294967296 - suc (a % 4294967296))) % 4294967296 ≡
        (4294967296 - suc (a % 4294967296) + b % 4294967296) % 4294967296
    turn a b = omega arith
mod_add (negsuc a) (negsuc b) = both a b
  where
    both :
        (a b : ℕ) → 4294967296 - suc (suc (a + b) % 4294967296) ≡
        (4294967296 - suc (a % 4294967296) + (4294967296 - suc (b % 4294967296))) % 4294967296
    both a b = omega arith

-- a summand may be wrapped first
pub wrap_left : (a b : ℤ) → wrap32 (wrap32 a +ℤ b) ≡ wrap32 (a +ℤ b)
wrap_left a b = ap signed32 (mod_add (wrap32 a) b ∙ ap (λ (n : ℕ). (n + mod_z b M) % M) (mod_wrap a) ∙ sym (mod_add a b))

pub wrap_right : (a b : ℤ) → wrap32 (a +ℤ wrap32 b) ≡ wrap32 (a +ℤ b)
wrap_right a b = ap wrap32 (+ℤ_comm a (wrap32 b)) ∙ wrap_left b a ∙ ap wrap32 (+ℤ_comm b a)

-- wrapped sums are commutative and associative
pub wrap_comm : (a b : ℤ) → wrap32 (a +ℤ b) ≡ wrap32 (b +ℤ a)
wrap_comm a b = ap wrap32 (+ℤ_comm a b)

pub wrap_assoc : (a b c : ℤ) → wrap32 (wrap32 (a +ℤ b) +ℤ c) ≡ wrap32 (a +ℤ wrap32 (b +ℤ c))
wrap_assoc a b c = wrap_left (a +ℤ b) c ∙ ap wrap32 (+ℤ_assoc a b c) ∙ sym (wrap_right a (b +ℤ c))
