-- "The lowest number that applies is returned": rules, each a test and its number. Assumes nothing: these are definitions.
use Rattle.std.specs.Prelude.{◌≡◌, ℕ, zero, suc, ◌<◌, Bool, true, false, ◌&&◌, cond, List, [], ◌∷◌, ◌↔◌, ltb, length, get_or}

-- whether a number applies, and the number
pub record Rule : Type 0 where
  pub applies : Bool
  pub number : ℕ

abbrev pub rule : Bool → ℕ → Rule
rule applies number = record { applies = applies; number = number }

-- of rules in rising order the number of the first that applies, or 0 where none does
abbrev pub lowest : List Rule → ℕ
lowest [] = 0
lowest (r ∷ rs) = cond r.applies r.number (lowest rs)

-- the numbers rise, and all lie above n
abbrev pub rising : ℕ → List Rule → Bool
rising n [] = true
rising n (r ∷ rs) = ltb n r.number && rising r.number rs

-- rule i applies, and none before it
abbrev pub First : List Rule → ℕ → Type 0
First [] i = ⊥
First (r ∷ rs) zero = r.applies ≡ true
First (r ∷ rs) (suc i) = (r.applies ≡ false) × First rs i

-- no rule applies
abbrev pub None : List Rule → Type 0
None [] = Unit {0}
None (r ∷ rs) = (r.applies ≡ false) × None rs

-- When each number is given: that of rule i exactly if rule i applies and none before it, and 0 exactly if none applies.
pub record Given (rs : List Rule) : Type 0 where
  pub given : (i : ℕ) → i < length rs → (lowest rs ≡ (get_or rs i (rule false 0)).number) ↔ First rs i
  pub nothing : (lowest rs ≡ 0) ↔ None rs

-- S n says in words when number n applies. The number given is the lowest that applies, and 0 exactly if none does.
pub record LowestGiven (S : ℕ → Type 0) (given : ℕ) : Type 0 where
  pub none : (given ≡ 0) ↔ ((n : ℕ) → S n → ⊥)
  pub number : (n : ℕ) → 0 < n → (given ≡ n) ↔ (S n × ((k : ℕ) → k < n → S k → ⊥))
