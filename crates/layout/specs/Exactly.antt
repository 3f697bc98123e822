-- Numbers 1, 2 and 3 of document 01's table in words of bytes and lengths: what each sentence says, and that each number is given exactly
-- if its sentence holds and none of a lower number does. Assumes nothing: these are definitions. proofs/Places.antt proves `Exactly` (by
-- `exactly`), and that an accepted layout is `Sound` (by `accepted`).
use Rattle.std.specs.Prelude.{◌≡◌, ◌⊎◌, ◌↔◌, ℕ, ◌≤◌, ◌<◌}
use Rattle.layout.specs.declared.Layout.{Layout}
use Rattle.layout.specs.declared.Place.{Place}
use Rattle.layout.specs.Places.{place_at, end, layout_number}

-- byte k belongs to a place
abbrev pub Holds : Place → ℕ → Type 0
Holds p k = (p.at ≤ k) × (k < end p)

-- "region lengths differ or exceed 65,536"
abbrev pub LengthsWrong : ℕ → ℕ → Type 0
LengthsWrong first second = (first ≡ second → ⊥) ⊎ ((65536 < first) ⊎ (65536 < second))

-- "a place ends past the region": one of the seven has a byte that is not among the region's `first`
abbrev pub EndsPast : ℕ → Layout → Type 0
EndsPast first l = (i : ℕ) × (k : ℕ) × (i < 7) × Holds (place_at l i) k × (first ≤ k)

-- "two places share a byte": a byte belongs to two of the seven
abbrev pub ShareByte : Layout → Type 0
ShareByte l = (i : ℕ) × (j : ℕ) × (k : ℕ) × (i < j) × (j < 7) × Holds (place_at l i) k × Holds (place_at l j) k

-- The "Given exactly if" column for 1, 2 and 3, and 0 where "no whole-call number applies" of these.
pub record Exactly (first second : ℕ) (l : Layout) : Type 0 where
  pub one : layout_number first second l ≡ 1 ↔ LengthsWrong first second
  pub two : layout_number first second l ≡ 2 ↔ (LengthsWrong first second → ⊥) × EndsPast first l
  pub three : layout_number first second l ≡ 3 ↔ (LengthsWrong first second → ⊥) × (EndsPast first l → ⊥) × ShareByte l
  pub none : layout_number first second l ≡ 0 ↔ (LengthsWrong first second → ⊥) × (EndsPast first l → ⊥) × (ShareByte l → ⊥)

-- What none of the three means for a layout that is accepted.
pub record Sound (first second : ℕ) (l : Layout) : Type 0 where
  pub same : first ≡ second
  pub small : first ≤ 65536
  -- each of the seven places ends within the region
  pub within : (i : ℕ) → i < 7 → end (place_at l i) ≤ first
  -- and no byte belongs to two of them
  pub own : (i j k : ℕ) → i < j → j < 7 → Holds (place_at l i) k → Holds (place_at l j) k → ⊥
