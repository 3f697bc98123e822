-- A walk over a list by an index: what is left of it, one element further; the two sides of a bound; and what every index reads. Assumes
-- nothing.
use mathlib.Core.Path.{◌≡◌, refl, sym, ap, ◌∙◌, subst}
use mathlib.Core.List.{List, [], ◌∷◌}
use mathlib.Core.Logic.{◌⊎◌, inl, inr, ⊎_elim}
use Prim.Native.Nat.{ℕ, zero, suc, ◌+◌, ◌<◌, ◌≤◌}
use native.Mathlib.Decide.{dec_lt}
use native.Mathlib.Nat.{le_of_suc-le-suc, not-suc-le-zero}
use native.Mathlib.Numerals.{add-one}
use native.Mathlib.Omega.{arith}
use lib.ListN.{length, drop, get_or, drop_of_length-le, get_or-eq_default}
use lib.Seq.{drop-cons}

-- one number is below another, or it is not
pub below_or : (m n : ℕ) → (m < n) ⊎ (n ≤ m)
below_or m n = elim (dec_lt m n) [ yes h ↦ inl h | no h ↦ inr (omega arith) ]

module _ {A : Type 0} where
  pub drop_next : (xs : List A) (i : ℕ) (d : A) → i < length xs → drop i xs ≡ get_or xs i d ∷ drop (i + 1) xs
  drop_next xs i d h = drop-cons xs i d h ∙ ap (λ (n : ℕ). get_or xs i d ∷ drop n xs) (sym (add-one i))

  pub drop_end : (xs : List A) (i : ℕ) → length xs ≤ i → drop i xs ≡ []
  drop_end xs i h = drop_of_length-le xs h

  -- within a list, what stands at an index does not depend on what is read past the end
  pub get_d_any : (xs : List A) (i : ℕ) (d e : A) → i < length xs → get_or xs i d ≡ get_or xs i e
  get_d_any [] i d e h = absurd (not-suc-le-zero h)
  get_d_any (x ∷ xs) zero d e h = refl
  get_d_any (x ∷ xs) (suc i) d e h = get_d_any xs i d e (le_of_suc-le-suc h)

  -- what holds of each element, and of what is read past the end, holds at every index
  pub everywhere :
      (P : A → Type 0) (xs : List A) (d : A) → P d → ((k : ℕ) → k < length xs → P (get_or xs k d))
      → (k : ℕ) → P (get_or xs k d)
  everywhere P xs d p h k = ⊎_elim (h k) (λ (l : length xs ≤ k). subst P (sym (get_or-eq_default xs d l)) p) (below_or k (length xs))
