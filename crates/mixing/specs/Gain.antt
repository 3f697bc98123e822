-- What a sample adds to a mix value, in f32: "every multiply, add and divide rounds once, in the source's order", then the program's own
-- cast. Assumes nothing: these are definitions.
use Rattle.std.specs.Prelude.{ℕ, ℤ, pos, Float}
use Rattle.numbers.specs.Casts.{cast_i32, single}
use Rattle.numbers.specs.Single.{◌⊕◌, ◌⊖◌, ◌⊗◌, ◌⊘◌}

-- "gain times sample"
unfoldable pub at_gain : Float → ℤ → ℤ
at_gain gain sample = cast_i32 (gain ⊗ single sample)

-- "i/159", which is formed first, as the source does
abbrev pub progress : ℕ → Float
progress i = single (pos i) ⊘ single (pos 159)

-- "(from + (to - from) times i/159) times sample, i from 0 in the frame"
unfoldable pub fading : Float → Float → ℕ → ℤ → ℤ
fading from to i sample = cast_i32 ((from ⊕ (to ⊖ from) ⊗ progress i) ⊗ single sample)
