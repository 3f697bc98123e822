-- Steps after steps are so many steps, and what remains never grows on the way. Assumes nothing.
use mathlib.Core.Path.{◌≡◌, ap, ◌∙◌}
use Prim.Native.Nat.{ℕ, zero, suc, ◌+◌, ◌≤◌}
use native.Mathlib.Nat.{le_trans}
use native.Mathlib.Omega.{arith}
use lib.Ieee.{Float}
use Rattle.steps.specs.declared.step.Cursor.{Cursor}
use Rattle.steps.specs.Step.{moved}
use Rattle.steps.specs.Stretch.{after}

next : (n m : ℕ) → suc (n + m) ≡ n + suc m
next n m = omega arith

none : (n : ℕ) → n ≡ n + 0
none n = omega arith

-- a step leaves no more than there was
pub moved_less : (rate : Float) (c : Cursor) → (moved rate c).remaining ≤ c.remaining
unfolding moved
moved_less rate c = omega arith

pub after_less : (rate : Float) (n : ℕ) (c : Cursor) → (after rate n c).remaining ≤ c.remaining
unfolding after
after_less rate zero c = omega arith
after_less rate (suc n) c = le_trans (moved_less rate (after rate n c)) (after_less rate n c)

module _ (rate : Float) (c : Cursor) (n : ℕ) where
  pub after_add : (m : ℕ) → after rate m (after rate n c) ≡ after rate (n + m) c
  unfolding after
  after_add zero = ap (λ (k : ℕ). after rate k c) (none n)
  after_add (suc m) = ap (moved rate) (after_add m) ∙ ap (λ (k : ℕ). after rate k c) (next n m)
