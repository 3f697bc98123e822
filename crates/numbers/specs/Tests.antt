-- What a record's rate and fraction are asked. Assumes nothing: these are definitions.
use Rattle.std.specs.Prelude.{Bool, not, ◌&&◌, ◌||◌, is_nan, Float}
use Rattle.std.specs.Float.Ieee.{lt}
use Rattle.std.specs.Float.Ieee.Scale.{finite}
use Rattle.numbers.specs.Literals.{+0}

-- "a rate not above 0 or not finite" is malformed: a rate is above 0 and finite
unfoldable pub is_rate : Float → Bool
is_rate x = lt +0 x && finite x

-- "a fraction below 0 or not a number" is malformed: a fraction is neither. So -0.0 and an infinity are fractions
unfoldable pub is_fraction : Float → Bool
is_fraction x = not (lt x +0 || is_nan x)
