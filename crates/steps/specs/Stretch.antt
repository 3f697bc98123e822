-- Steps through an entry, one after the other. Assumes nothing: these are definitions.
use Rattle.std.specs.Prelude.{◌≡◌, List, ℕ, zero, suc, ◌-◌, ◌≤◌, ◌<◌, get_or, Float}
use Rattle.std.specs.Float.{nan}
use Rattle.steps.specs.declared.step.Cursor.{Cursor}
use Rattle.steps.specs.declared.stretch.Reached.{Reached}
use Rattle.steps.specs.Step.{moved}

-- so many steps on
unfoldable pub after : Float → ℕ → Cursor → Cursor
after rate zero c = c
after rate (suc n) c = moved rate (after rate n c)

-- how far it came: no further than there is room, and nowhere with fewer than two samples left
pub record Stretched (rate : Float) (c : Cursor) (room : ℕ) (r : Reached) : Type 0 where
  pub count_most : r.count ≤ room
  pub cursor_is : r.cursor ≡ after rate r.count c
  pub inside : (j : ℕ) → j ≤ r.count → 1 < (after rate j c).remaining

-- what a walk through an entry of a size notes of step j: where in the entry the cursor is, and its fraction
pub record Noted (size : ℕ) (places : List ℕ) (fractions : List Float) (c : Cursor) (j : ℕ) : Type 0 where
  pub place_is : get_or places j 0 ≡ size - c.remaining
  pub fraction_is : get_or fractions j nan ≡ c.fraction

-- what it notes of the first n steps
abbrev pub Walked : Float → Cursor → ℕ → List ℕ → List Float → ℕ → Type 0
Walked rate c size places fractions n = (j : ℕ) → j < n → Noted size places fractions (after rate j c) j
