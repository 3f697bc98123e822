-- A list that a loop fills from the front, an element a turn, each from one of another list. Assumes nothing.
use Rattle.std.proofs.Common.{◌≡◌, ℕ, zero, suc, ◌<◌, List, [], ◌∷◌, ◌++◌, length, map, take, drop, get_or, set, refl, ap, arith}

module _ {A X : Type 0} (f : A → X) where
  pub fill_more : (xs : List A) (old : List X) (i : ℕ) (d : A) → i < length xs → i < length old
      → set (map f (take i xs) ++ drop i old) i (f (get_or xs i d)) ≡ map f (take (suc i) xs) ++ drop (suc i) old
  fill_more [] old i d h k = absurd (omega (arith, h))
  fill_more (x ∷ xs) [] i d h k = absurd (omega (arith, k))
  fill_more (x ∷ xs) (o ∷ os) zero d h k = refl
  fill_more (x ∷ xs) (o ∷ os) (suc i) d h k =
      ap (λ (l : List X). f x ∷ l) (fill_more xs os i d (omega (arith, h)) (omega (arith, k)))
