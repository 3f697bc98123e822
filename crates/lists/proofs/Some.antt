-- A test on the elements of a list: what none, one or every element passing says of the elements, both ways, what keeps that every element
-- passes, and how a loop comes by it, an element a turn. By induction on the list. Assumes nothing.
use mathlib.Core.Path.{◌≡◌, refl, sym, ap, ◌∙◌}
use mathlib.Core.Bool.{Bool, true, false, not, ◌&&◌, ◌||◌}
use mathlib.Core.List.Memᴰ
use mathlib.Core.List.{List, [], ◌∷◌, ◌++◌, Memᴰ}
use mathlib.Core.Logic.{◌⊎◌, inl, inr}
use Prim.Native.Nat.{ℕ, zero, suc, ◌+◌, ◌<◌, zero-le, suc-le-suc}
use native.Mathlib.Nat.{le_of_suc-le-suc, not-suc-le-zero}
use native.Mathlib.Numerals.{add-one}
use native.Mathlib.Omega.{arith}
use lib.ListN.{length, take, drop, get_or, set, replicate}
use lib.Seq.{sets}
use Rattle.lists.specs.Some.{some, every}
use Rattle.lists.specs.Splice.{part, splice}
use Rattle.lists.specs.Tabulate.{tabulate}
use Rattle.lists.proofs.Bools.{or_no, or_yes, or_one, or_neither, and_yes, and_both}

module _ {A : Type 0} (test : A → Bool) where
  or_assoc : (x y z : Bool) → (x || (y || z)) ≡ ((x || y) || z)
  or_assoc true y z = refl
  or_assoc false y z = refl

  or_true : (x : Bool) → (x || true) ≡ true
  or_true true = refl
  or_true false = refl

  or_false : (x : Bool) → (x || false) ≡ x
  or_false true = refl
  or_false false = refl

  and_assoc : (x y z : Bool) → (x && (y && z)) ≡ ((x && y) && z)
  and_assoc true y z = refl
  and_assoc false y z = refl

  not_or : (x y : Bool) → (x && not y) ≡ not (not x || y)
  not_or true y = refl
  not_or false y = refl

  some_suc : (xs : List A) (i : ℕ) (d : A) → i < length xs → some test (take (suc i) xs) ≡ (some test (take i xs) || test (get_or xs i d))
  some_suc [] i d h = absurd (not-suc-le-zero h)
  some_suc (x ∷ xs) zero d h = or_false (test x)
  some_suc (x ∷ xs) (suc i) d h =
      ap (λ (b : Bool). test x || b) (some_suc xs i d (le_of_suc-le-suc h))
      ∙ or_assoc (test x) (some test (take i xs)) (test (get_or xs i d))

  -- of one element more
  pub some_more :
      (xs : List A) (i : ℕ) (d : A) → i < length xs → some test (take (i + 1) xs) ≡ (some test (take i xs) || test (get_or xs i d))
  some_more xs i d h = rw add-one (some_suc xs i d h)

  -- none passes: each fails
  pub none_each : (xs : List A) (d : A) → some test xs ≡ false → (k : ℕ) → k < length xs → test (get_or xs k d) ≡ false
  none_each [] d e k h = absurd (not-suc-le-zero h)
  none_each (x ∷ xs) d e zero h = (or_neither (test x) (some test xs) e).0
  none_each (x ∷ xs) d e (suc k) h = none_each xs d (or_neither (test x) (some test xs) e).1 k (le_of_suc-le-suc h)

  pub each_none : (xs : List A) (d : A) → ((k : ℕ) → k < length xs → test (get_or xs k d) ≡ false) → some test xs ≡ false
  each_none [] d f = refl
  each_none (x ∷ xs) d f = or_no (some test xs) (f zero (suc-le-suc zero-le)) ∙ each_none xs d (λ k h. f (suc k) (suc-le-suc h))

  never : false ≡ true → ⊥
  never f = let z : ◌≡◌ {A = ℕ} 0 1 = cc in omega arith

  -- one passes: which of the list it is, and the other way round
  pub some_one : (xs : List A) → some test xs ≡ true → (x : A) × Memᴰ x xs × (test x ≡ true)
  some_one [] e = absurd (never e)
  some_one (x ∷ xs) e = by (or_one (test x) (some test xs) e) (some_one xs)
    where
      by : (test x ≡ true) ⊎ (some test xs ≡ true) → (some test xs ≡ true → (y : A) × Memᴰ y xs × (test y ≡ true))
          → (y : A) × Memᴰ y (x ∷ xs) × (test y ≡ true)
      by (inl t) rest = (x, Memᴰ.head refl, t)
      by (inr t) rest = let one = rest t in (one.0, Memᴰ.tail one.1, one.2)

  pub one_some : (x : A) (xs : List A) → Memᴰ x xs → test x ≡ true → some test xs ≡ true
  one_some x [] m t = absurd (Memᴰ.not-nil m)
  one_some x (y ∷ ys) m t = by (Memᴰ.cases_cons m) (λ n. one_some x ys n t)
    where
      by : (x ≡ y) ⊎ Memᴰ x ys → (Memᴰ x ys → some test ys ≡ true) → some test (y ∷ ys) ≡ true
      by (inl e) rest = or_yes (some test ys) (ap test (sym e) ∙ t)
      by (inr n) rest = ap (λ (b : Bool). test y || b) (rest n) ∙ or_true (test y)

  -- at which place
  pub some_place : (xs : List A) (d : A) → some test xs ≡ true → (k : ℕ) × (k < length xs) × (test (get_or xs k d) ≡ true)
  some_place [] d e = absurd (never e)
  some_place (x ∷ xs) d e = by (or_one (test x) (some test xs) e) (some_place xs d)
    where
      by : (test x ≡ true) ⊎ (some test xs ≡ true) → (some test xs ≡ true → (k : ℕ) × (k < length xs) × (test (get_or xs k d) ≡ true))
          → (k : ℕ) × (k < suc (length xs)) × (test (get_or (x ∷ xs) k d) ≡ true)
      by (inl t) rest = (zero, suc-le-suc zero-le, t)
      by (inr t) rest = let one = rest t in (suc one.0, suc-le-suc one.1, one.2)

  -- ---- every element passes

  pub every_cons : (x : A) (xs : List A) → test x ≡ true → every test xs ≡ true → every test (x ∷ xs) ≡ true
  every_cons x xs t e = and_yes (every test xs) t ∙ e

  every_split : (x : A) (xs : List A) → every test (x ∷ xs) ≡ true → (test x ≡ true) × (every test xs ≡ true)
  every_split x xs e = and_both (test x) (every test xs) e

  -- each does, by its place: also what is read past the end, where that passes
  pub every_at : (xs : List A) (k : ℕ) (d : A) → every test xs ≡ true → test d ≡ true → test (get_or xs k d) ≡ true
  every_at [] k d e t = t
  every_at (x ∷ xs) zero d e t = (every_split x xs e).0
  every_at (x ∷ xs) (suc k) d e t = every_at xs k d (every_split x xs e).1 t

  pub at_every : (xs : List A) (d : A) → ((k : ℕ) → k < length xs → test (get_or xs k d) ≡ true) → every test xs ≡ true
  at_every [] d f = refl
  at_every (x ∷ xs) d f = every_cons x xs (f zero (suc-le-suc zero-le)) (at_every xs d (λ k h. f (suc k) (suc-le-suc h)))

  pub every_append : (xs ys : List A) → every test (xs ++ ys) ≡ (every test xs && every test ys)
  every_append [] ys = refl
  every_append (x ∷ xs) ys = ap (λ (b : Bool). test x && b) (every_append xs ys) ∙ and_assoc (test x) (every test xs) (every test ys)

  -- one that fails, told by the other test
  pub every_some : (xs : List A) → every test xs ≡ not (some (λ x. not (test x)) xs)
  every_some [] = refl
  every_some (x ∷ xs) = ap (λ (b : Bool). test x && b) (every_some xs) ∙ not_or (test x) (some (λ y. not (test y)) xs)

  pub every_set : (xs : List A) (i : ℕ) (x : A) → every test xs ≡ true → test x ≡ true → every test (set xs i x) ≡ true
  every_set [] i x e t = refl
  every_set (y ∷ ys) zero x e t = every_cons x ys t (every_split y ys e).1
  every_set (y ∷ ys) (suc i) x e t = let both = every_split y ys e in every_cons y (set ys i x) both.0 (every_set ys i x both.1 t)

  every_sets : (xs : List A) (a : ℕ) (new : List A) → every test xs ≡ true → every test new ≡ true → every test (sets xs a new) ≡ true
  every_sets xs a [] e f = e
  every_sets xs a (x ∷ new) e f =
      let both = every_split x new f in every_sets (set xs a x) (suc a) new (every_set xs a x e both.0) both.1

  pub every_splice :
      (xs : List A) (a : ℕ) (new : List A) → every test xs ≡ true → every test new ≡ true → every test (splice xs a new) ≡ true
  unfolding splice
  every_splice xs a new e f = every_sets xs a new e f

  pub every_take : (n : ℕ) (xs : List A) → every test xs ≡ true → every test (take n xs) ≡ true
  every_take zero xs e = refl
  every_take (suc n) [] e = refl
  every_take (suc n) (x ∷ xs) e = let both = every_split x xs e in every_cons x (take n xs) both.0 (every_take n xs both.1)

  pub every_drop : (n : ℕ) (xs : List A) → every test xs ≡ true → every test (drop n xs) ≡ true
  every_drop zero xs e = e
  every_drop (suc n) [] e = refl
  every_drop (suc n) (x ∷ xs) e = every_drop n xs (every_split x xs e).1

  pub every_part : (a n : ℕ) (xs : List A) → every test xs ≡ true → every test (part a n xs) ≡ true
  every_part a n xs e = every_take n (drop a xs) (every_drop a xs e)

  pub every_tabulate : (f : ℕ → A) (n : ℕ) → ((i : ℕ) → test (f i) ≡ true) → every test (tabulate f n) ≡ true
  every_tabulate f zero t = refl
  every_tabulate f (suc n) t = every_cons (f 0) (tabulate (λ i. f (suc i)) n) (t 0) (every_tabulate (λ i. f (suc i)) n (λ i. t (suc i)))

  pub every_replicate : (n : ℕ) (x : A) → test x ≡ true → every test (replicate n x) ≡ true
  every_replicate zero x t = refl
  every_replicate (suc n) x t = every_cons x (replicate n x) t (every_replicate n x t)
