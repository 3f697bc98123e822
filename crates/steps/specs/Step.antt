-- One sample's step through an entry, as the source's long way has it: each sample produced takes `rate` samples of the entry.
-- Assumes nothing: these are definitions.
use Rattle.std.specs.Prelude.{ℕ, ◌-◌, min, pos, Float}
use Rattle.std.specs.Float.{binary64}
use Rattle.std.specs.Float.Ieee.{add, sub}
use Rattle.numbers.specs.Casts.{cast_u32, double}
use Rattle.numbers.specs.Held.{at_least_0}
use Rattle.steps.specs.declared.step.Cursor.{Cursor}

-- how many samples of the entry go by: the whole part of fraction and rate, or what remains where that is less
unfoldable pub consumed : Float → Cursor → ℕ
consumed rate c = min (cast_u32 (add binary64 c.fraction rate)) c.remaining

-- fraction and rate, less what went by, and no less than 0
unfoldable pub left : Float → Cursor → Float
left rate c = at_least_0 (sub binary64 (add binary64 c.fraction rate) (double (pos (consumed rate c))))

-- where playing is after the step
unfoldable pub moved : Float → Cursor → Cursor
moved rate c = record { remaining = c.remaining - consumed rate c; fraction = left rate c }
