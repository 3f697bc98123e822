-- What the quick way to a sample's part goes through. Assumes nothing: these are definitions.
use Rattle.std.specs.Prelude.{Bool, true, false, ◌&&◌, ℕ, ◌*◌, ◌≤◌, pos, negsuc, Float}
use Rattle.std.specs.Float.{nan, inf, fin}
use Rattle.std.specs.Float.Ieee.{up, down, neg, le}

-- the largest size of a gain that it takes, 32
abbrev pub QUICK_GAIN : Float
QUICK_GAIN = fin false 1 (pos 5)

-- the largest size of a gain to fade from or to it, 16
abbrev pub FADING_GAIN : Float
FADING_GAIN = fin false 1 (pos 4)

-- a gain of a size of at most `most`
unfoldable pub within : Float → Float → Bool
within most g = le (neg most) g && le g most

-- a number from -M to M
abbrev pub Around : ℕ → Float → Type 0
Around M nan = ⊥
Around M (inf s) = ⊥
Around M (fin s m e) = m * up e ≤ M * down e

-- a quarter on either side of 0
abbrev pub +¼ : Float
+¼ = fin false 1 (negsuc 1)

abbrev pub -¼ : Float
-¼ = fin true 1 (negsuc 1)
