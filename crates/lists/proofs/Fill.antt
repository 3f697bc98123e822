-- A list that a loop fills from the front, one store a turn: whatever the target, an invariant on lists and not on every index. Assumes
-- nothing.
use mathlib.Core.Path.{◌≡◌, refl, sym, ap, ◌∙◌}
use mathlib.Core.List.{List, [], ◌∷◌, ◌++◌, append-nil}
use Prim.Native.Nat.{ℕ, zero, suc, ◌+◌, ◌-◌, ◌≤◌, ◌<◌, zero-le}
use native.Mathlib.Nat.{le_of_suc-le-suc, not-suc-le-zero}
use native.Mathlib.Numerals.{add-one}
use native.Mathlib.Omega.{arith}
use lib.ListN.{length, take, drop, get_or, set, length-set}
use lib.Seq.{take-length, drop-length, length-take-le, get_or-append-add, get_or-drop}

module _ {A : Type 0} where
  -- the first i elements are the target's, the others as they were
  abbrev pub filled : List A → List A → ℕ → List A
  filled goal old i = take i goal ++ drop i old

  store :
      (goal old : List A) (i : ℕ) (d : A) → i < length goal → i < length old
      → set (filled goal old i) i (get_or goal i d) ≡ filled goal old (suc i)
  store [] old i d h k = absurd (not-suc-le-zero h)
  store (x ∷ xs) [] i d h k = absurd (not-suc-le-zero k)
  store (x ∷ xs) (y ∷ ys) zero d h k = refl
  store (x ∷ xs) (y ∷ ys) (suc i) d h k = ap (λ (l : List A). x ∷ l) (store xs ys i d (le_of_suc-le-suc h) (le_of_suc-le-suc k))

  -- a turn: a store of the target's element. l is the list at the loop's head
  pub fill_more : (goal old l : List A) (i : ℕ) (v d : A) → l ≡ filled goal old i → v ≡ get_or goal i d → i < length goal → i < length old
      → set l i v ≡ filled goal old (i + 1)
  fill_more goal old l i v d e q h k =
      (λ j. set (e j) i (q j)) ∙ store goal old i d h k ∙ ap (λ (n : ℕ). filled goal old n) (sym (add-one i))

  -- at the loop's end, where the target is as long as the list
  pub fill_all : (goal old l : List A) (i : ℕ) → l ≡ filled goal old i → length goal ≡ length old → i ≡ length goal → l ≡ goal
  fill_all goal old l i e q h =
      e ∙ ap (λ (n : ℕ). filled goal old n) h
      ∙ (λ j. take-length goal j ++ drop (q j) old) ∙ ap (λ (r : List A). goal ++ r) (drop-length old) ∙ append-nil goal

  -- what is not yet stored is as it was, which a turn that reads before it writes needs
  pub fill_later :
      (goal old l : List A) (i k : ℕ) (d : A) → l ≡ filled goal old i → i ≤ length goal → i ≤ k → get_or l k d ≡ get_or old k d
  fill_later goal old l i k d e h le =
      let len : length (take i goal) ≡ i = length-take-le i goal h in
      let there : k ≡ length (take i goal) + (k - i) = omega arith in
      let back : i + (k - i) ≡ k = omega arith in
      ap (λ (r : List A). get_or r k d) e
      ∙ ap (λ (n : ℕ). get_or (filled goal old i) n d) there
      ∙ get_or-append-add (take i goal) (drop i old) (k - i) d
      ∙ get_or-drop i old (k - i) d
      ∙ ap (λ (n : ℕ). get_or old n d) back

  pub fill_next : (goal old l : List A) (i : ℕ) (d : A) → l ≡ filled goal old i → i ≤ length goal → get_or l i d ≡ get_or old i d
  fill_next goal old l i d e h = fill_later goal old l i i d e h (omega arith)

-- The invariant of such a loop: `old` is the list where the loop begins, `now` at its head, and `goal` what is wanted of it.
pub record Filling {A : Type 0} (goal old now : List A) (i : ℕ) : Type 0 where
  pub reach : i ≤ length old
  pub same : length now ≡ length old
  pub stored : now ≡ filled goal old i

module _ {A : Type 0} where
  pub filling_none : (goal old : List A) → Filling goal old old 0
  filling_none goal old = record { reach = zero-le; same = refl; stored = refl }

  pub filling_more :
      (goal old now : List A) (i : ℕ) (v d : A) → length goal ≡ length old → i < length old → Filling goal old now i → v ≡ get_or goal i d
      → Filling goal old (set now i v) (i + 1)
  filling_more goal old now i v d l h f q = record {
    reach = omega arith;
    same = length-set now i v ∙ f.same;
    stored = fill_more goal old now i v d f.stored q (omega arith) h;
  }

  pub filling_all : (goal old now : List A) (i : ℕ) → length goal ≡ length old → length old ≤ i → Filling goal old now i → now ≡ goal
  filling_all goal old now i l h f = fill_all goal old now i f.stored l (omega (arith, f.reach))

  -- a turn that reads the element before it writes it reads the old one
  pub filling_next :
      (goal old now : List A) (i : ℕ) (d : A) → length goal ≡ length old → Filling goal old now i → get_or now i d ≡ get_or old i d
  filling_next goal old now i d l f = fill_next goal old now i d f.stored (omega (arith, f.reach))
