-- The filters as they are before a title sets them, which is also what stands under a mark that is off. Assumes nothing: these are
-- definitions.
use Rattle.std.specs.Prelude.{false, [], ◌∷◌, pos}
use Rattle.filters.specs.declared.state.SimpleFilter.{SimpleFilter}
use Rattle.filters.specs.declared.state.BiquadFilter.{BiquadFilter}
use Rattle.filters.specs.declared.state.Filters.{Filters}

-- "Defaults are identities"
abbrev pub default_simple : SimpleFilter
default_simple = record { b0 = pos 32768; a1 = pos 0; y1 = pos 0 ∷ pos 0 ∷ [] }

abbrev pub default_biquad : BiquadFilter
default_biquad = record {
  b = pos 16384 ∷ pos 0 ∷ pos 0 ∷ [];
  a = pos 0 ∷ pos 0 ∷ [];
  x = pos 0 ∷ pos 0 ∷ pos 0 ∷ pos 0 ∷ [];
  y = pos 0 ∷ pos 0 ∷ pos 0 ∷ pos 0 ∷ [];
}

-- "Switching off forgets coefficients and state"
abbrev pub no_filters : Filters
no_filters = record { has_simple = false; simple = default_simple; has_biquad = false; biquad = default_biquad }
