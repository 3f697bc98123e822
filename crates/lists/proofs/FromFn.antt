-- An array that `std::array::from_fn` makes by a closure that changes nothing is the list that the closure gives by the index. By induction
-- on how many elements are left. Assumes nothing.
use mathlib.Core.Path.{◌≡◌, ◌∙◌, subst}
use mathlib.Core.List.{List}
use Prim.Native.Nat.{ℕ, zero, suc, ◌+◌, ◌<◌}
use native.Mathlib.Decide.{dec_lt}
use native.Mathlib.Omega.{arith}
use lib.ListN.{get_or}
use denote.Param.Members.{Mut, Called}
use Rattle.std.specs.Array.{IsFromFnResult, IsFromFnResultFrom}
use Rattle.lists.specs.Tabulate.{tabulate}
use Rattle.lists.proofs.Tabulate.{tabulated}

module _ {F B : Type 0} (g : Mut F (ℕ × Unit {0}) B) (h : ℕ → B) (f : F) where
  -- each call gives what h gives at the index, and leaves the closure as it was
  abbrev pub Gives : ℕ → Type 0
  Gives n = (i : ℕ) (y : B) (q : F) → i < n → Called g f (i, tt) y q → (y ≡ h i) × (q ≡ f)

  -- element j of those from i on, of which there are m
  element : (n : ℕ) → Gives n → (ys : List B) (i m j : ℕ) (d : B) → i + m ≡ n → i < j + 1 → j < n → IsFromFnResultFrom g f ys i m
      → get_or ys j d ≡ h j
  element n gives ys i zero j d e low high w = absurd (omega arith)
  element n gives ys i (suc m) j d e low high w =
      let first = gives i w.1 w.0 (omega arith) w.3 in
      let rest = subst (λ (q : F). IsFromFnResultFrom g q ys (i + 1) m) first.1 w.4 in
      elim (dec_lt i j) [
        | yes later ↦ element n gives ys (i + 1) m j d (omega arith) (omega arith) high rest
        | no not_later ↦ subst (λ (k : ℕ). get_or ys k d ≡ h k) (omega arith) (w.2.1 d ∙ first.0)
      ]

  pub made : (n : ℕ) (d : B) → Gives n → (ys : List B) → IsFromFnResult g f ys n → ys ≡ tabulate h n
  made n d gives ys r = tabulated ys h n d r.long (λ k lt. element n gives ys 0 n k d (omega arith) (omega arith) lt r.each)
