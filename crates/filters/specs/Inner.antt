-- One filter by itself over samples, of which the functions inside this crate speak. A filter of any kind is given by its value for a
-- sample of a channel and by what it is next. Assumes nothing: these are definitions.
use Rattle.std.specs.Prelude.{ℕ, ◌-◌, List, [], ◌∷◌, ℤ, pos, get_or, set}
use Rattle.filters.specs.declared.state.SimpleFilter.{SimpleFilter}
use Rattle.filters.specs.declared.state.BiquadFilter.{BiquadFilter}
use Rattle.filters.specs.declared.state.Filters.{Filters}
use Rattle.filters.specs.Filter.{simple_value, simple_after, biquad_value, biquad_after}

-- the filter after a sample
abbrev pub simple_next : ℕ → SimpleFilter → ℤ → SimpleFilter
simple_next channel f x = simple_after channel f (simple_value channel f x)

abbrev pub biquad_next : ℕ → BiquadFilter → ℤ → BiquadFilter
biquad_next channel f x = biquad_after channel f x (biquad_value channel f x)

-- the samples, the one at i put through the filter
abbrev pub one_passed : {S : Type 0} → (ℕ → S → ℤ → ℤ) → ℕ → S → List ℤ → ℕ → List ℤ
one_passed value channel f samples i = set samples i (value channel f (get_or samples i (pos 0)))

-- the samples put through the filter, left and right in turn, the first one of the channel given
abbrev pub all_passed : {S : Type 0} → (ℕ → S → ℤ → ℤ) → (ℕ → S → ℤ → S) → ℕ → S → List ℤ → List ℤ
all_passed value next channel f [] = []
all_passed value next channel f (x ∷ samples) = value channel f x ∷ all_passed value next (1 - channel) (next channel f x) samples

-- the filter after the last of them
abbrev pub after_all : {S : Type 0} → (ℕ → S → ℤ → S) → ℕ → S → List ℤ → S
after_all next channel f [] = f
after_all next channel f (x ∷ samples) = after_all next (1 - channel) (next channel f x) samples

-- the filters of a voice with another simple filter, and with another biquad one
abbrev pub with_simple : Filters → SimpleFilter → Filters
with_simple f simple = record { has_simple = f.has_simple; simple = simple; has_biquad = f.has_biquad; biquad = f.biquad }

abbrev pub with_biquad : Filters → BiquadFilter → Filters
with_biquad f biquad = record { has_simple = f.has_simple; simple = f.simple; has_biquad = f.has_biquad; biquad = biquad }
