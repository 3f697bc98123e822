-- The laws of `tabulate`: how long it is, what stands at an index, and that a list is what its own elements make. By induction on the
-- length. Assumes nothing.
use mathlib.Core.Path.{◌≡◌, refl, sym, ap, ◌∙◌, subst}
use mathlib.Core.List.{List}
use Prim.Native.Nat.{ℕ, zero, suc, ◌<◌}
use native.Mathlib.Nat.{le_of_suc-le-suc, not-suc-le-zero}
use lib.ListN.{length, get_or}
use lib.Seq.{ext_get_or}
use Rattle.lists.specs.Tabulate.{tabulate}

module _ {A : Type 0} where
  pub length_tabulate : (f : ℕ → A) (n : ℕ) → length (tabulate f n) ≡ n
  length_tabulate f zero = refl
  length_tabulate f (suc n) = ap suc (length_tabulate (λ i. f (suc i)) n)

  pub get_d_tabulate : (f : ℕ → A) (n i : ℕ) (d : A) → i < n → get_or (tabulate f n) i d ≡ f i
  get_d_tabulate f zero i d h = absurd (not-suc-le-zero h)
  get_d_tabulate f (suc n) zero d h = refl
  get_d_tabulate f (suc n) (suc i) d h = get_d_tabulate (λ k. f (suc k)) n i d (le_of_suc-le-suc h)

  pub tabulated : (l : List A) (f : ℕ → A) (n : ℕ) (d : A) → length l ≡ n → ((k : ℕ) → k < n → get_or l k d ≡ f k) → l ≡ tabulate f n
  tabulated l f n d e h =
      ext_get_or d l (tabulate f n) (e ∙ sym (length_tabulate f n))
      (λ k b. let c = subst (λ (m : ℕ). k < m) e b in h k c ∙ sym (get_d_tabulate f n k d c))
