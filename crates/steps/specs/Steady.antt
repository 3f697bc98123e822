-- Where a step takes the whole part of the rate, or one more: a fraction below 1 and a rate that 31 bits count.
-- Assumes nothing: these are definitions.
use Rattle.std.specs.Prelude.{◌≡◌, Bool, true, false, ◌&&◌, ℕ, ◌+◌, ◌*◌, ◌<◌, ltb, pos, Float}
use Rattle.std.specs.Float.{nan, inf, fin}
use Rattle.std.specs.Float.Ieee.{up, down, lt, le}
use Rattle.numbers.specs.Casts.{cast_u32}
use Rattle.numbers.specs.Literals.{+0, +1}
use Rattle.steps.specs.declared.step.Cursor.{Cursor}

-- a number from 0 to below 1, either zero among them
abbrev pub Part : Float → Type 0
Part nan = ⊥
Part (inf s) = ⊥
Part (fin s m e) = (s ≡ true → m * up e ≡ 0) × (m * up e < down e)

-- a number from 0 to below 2 ^ 31
abbrev pub Slow : Float → Type 0
Slow nan = ⊥
Slow (inf s) = ⊥
Slow (fin s m e) = (s ≡ false) × (m * up e < 2147483648 * down e)

-- the tests for them
unfoldable pub is_part : Float → Bool
is_part fraction = le +0 fraction && lt fraction +1

unfoldable pub is_slow : Float → Bool
is_slow rate = lt +0 rate && lt rate (fin false 1 (pos 31))

-- both at once
unfoldable pub steady : Float → Float → Bool
steady fraction rate = is_part fraction && is_slow rate

-- where the quick way goes for so many steps: fraction and rate are such, and even if each step takes one more than the whole part of the
-- rate, two samples are left
unfoldable pub quick_way : Cursor → Float → ℕ → Bool
quick_way c rate room = steady c.fraction rate && ltb (room * (cast_u32 rate + 1) + 1) c.remaining
