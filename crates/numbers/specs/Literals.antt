-- The two floats that stand for a number that is not taken. Assumes nothing: these are definitions.
use Rattle.std.specs.Prelude.{false, pos, Float}
use Rattle.std.specs.Float.{fin}

-- 0.0
abbrev pub +0 : Float
+0 = fin false 0 (pos 0)

-- 1.0
abbrev pub +1 : Float
+1 = fin false 1 (pos 0)
