-- What a well-formed record's filters keep to: malformed is "a filter coefficient or filter state outside -32768 to 32768". Data under an
-- off mark count for nothing. Assumes nothing: these are definitions.
use Rattle.std.specs.Prelude.{Bool, true, ◌&&◌, cond, List, [], ◌∷◌, leb, ℤ, nat_abs}
use Rattle.filters.specs.declared.state.SimpleFilter.{SimpleFilter}
use Rattle.filters.specs.declared.state.BiquadFilter.{BiquadFilter}
use Rattle.filters.specs.declared.state.Filters.{Filters}

-- a number from -32768 to 32768
unfoldable pub in_range : ℤ → Bool
in_range z = leb (nat_abs z) 32768

abbrev pub all_in_range : List ℤ → Bool
all_in_range [] = true
all_in_range (z ∷ zs) = in_range z && all_in_range zs

abbrev pub simple_in_range : SimpleFilter → Bool
simple_in_range f = in_range f.b0 && (in_range f.a1 && all_in_range f.y1)

abbrev pub biquad_in_range : BiquadFilter → Bool
biquad_in_range f = all_in_range f.b && (all_in_range f.a && (all_in_range f.x && all_in_range f.y))

abbrev pub filters_in_range : Filters → Bool
filters_in_range f = cond f.has_simple (simple_in_range f.simple) true && cond f.has_biquad (biquad_in_range f.biquad) true
