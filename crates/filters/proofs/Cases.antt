-- Cases worked out by the source's rule: sums past 32 bits, the order of the two filters, and eight samples through both. Assumes nothing.
use mathlib.Core.Path.{◌≡◌, refl}
use mathlib.Core.Bool.{true}
use mathlib.Core.List.{List, [], ◌∷◌}
use lib.IntN.{ℤ, pos, negsuc}
use Rattle.filters.specs.declared.state.SimpleFilter.{SimpleFilter}
use Rattle.filters.specs.declared.state.BiquadFilter.{BiquadFilter}
use Rattle.filters.specs.declared.state.Filters.{Filters}
use Rattle.filters.specs.Filter.{simple_sum, simple_value, biquad_sum, biquad_value}
use Rattle.filters.specs.Process.{pass_simple, pass_biquad, pass, passed_from, filters_after}

abbrev simple : ℤ → ℤ → List ℤ → SimpleFilter
simple b0 a1 y1 = record { b0 = b0; a1 = a1; y1 = y1 }

abbrev biquad : List ℤ → List ℤ → List ℤ → List ℤ → BiquadFilter
biquad b a x y = record { b = b; a = a; x = x; y = y }

abbrev on : SimpleFilter → BiquadFilter → Filters
on f g = record { has_simple = true; simple = f; has_biquad = true; biquad = g }

abbrev zeros : List ℤ
zeros = pos 0 ∷ pos 0 ∷ pos 0 ∷ pos 0 ∷ []

-- 2 ^ 30 twice is one more than 32 bits hold: unwrapped, either value would be 32767
pub simple_wraps : simple_value 0 (simple (negsuc 32767) (pos 32768) (pos 32768 ∷ pos 0 ∷ [])) (negsuc 32767) ≡ negsuc 32767
unfolding simple_value simple_sum
simple_wraps = refl

pub biquad_wraps :
    biquad_value 0
    (biquad (negsuc 32767 ∷ negsuc 32767 ∷ pos 0 ∷ []) (pos 0 ∷ pos 0 ∷ []) (negsuc 32767 ∷ pos 0 ∷ pos 0 ∷ pos 0 ∷ []) zeros)
    (negsuc 32767) ≡ negsuc 32767
unfolding biquad_value biquad_sum
biquad_wraps = refl

-- the simple filter halves and the biquad one doubles: 1 is 0 and then 0, where the other order would give 2 and then 1
pub simple_first :
    (pass 0
    (on (simple (pos 16384) (pos 0) (pos 0 ∷ pos 0 ∷ [])) (biquad (pos 32768 ∷ pos 0 ∷ pos 0 ∷ []) (pos 0 ∷ pos 0 ∷ []) zeros zeros))
    (pos 1)).value ≡ pos 0
unfolding pass pass_simple pass_biquad simple_value simple_sum biquad_value biquad_sum
simple_first = refl

-- four pairs of samples, 1000, -1000, 2000, 30000, -32768, 32767, 12, -1
abbrev samples : List ℤ
samples = pos 1000 ∷ negsuc 999 ∷ pos 2000 ∷ pos 30000 ∷ negsuc 32767 ∷ pos 32767 ∷ pos 12 ∷ negsuc 0 ∷ []

abbrev before : Filters
before =
    on (simple (pos 16384) (negsuc 8191) (pos 5 ∷ negsuc 6 ∷ []))
    (biquad (pos 8192 ∷ pos 4096 ∷ negsuc 2047 ∷ []) (pos 1000 ∷ negsuc 2999 ∷ []) (pos 1 ∷ pos 2 ∷ pos 3 ∷ pos 4 ∷ [])
    (pos 5 ∷ pos 6 ∷ pos 7 ∷ pos 8 ∷ []))

abbrev after : Filters
after =
    on (simple (pos 16384) (negsuc 8191) (pos 4156 ∷ negsuc 3150 ∷ []))
    (biquad (pos 8192 ∷ pos 4096 ∷ negsuc 2047 ∷ []) (pos 1000 ∷ negsuc 2999 ∷ []) (pos 4156 ∷ negsuc 3150 ∷ negsuc 16602 ∷ pos 12602 ∷ [])
    (negsuc 2785 ∷ negsuc 1024 ∷ negsuc 8155 ∷ pos 10643 ∷ []))

pub both_samples :
    passed_from 0 before samples ≡ pos 247 ∷ negsuc 250 ∷ pos 576 ∷ pos 7420 ∷ negsuc 8155 ∷ pos 10643 ∷ negsuc 2785 ∷ negsuc 1024 ∷ []
unfolding pass pass_simple pass_biquad simple_value simple_sum biquad_value biquad_sum
both_samples = refl

pub both_filters : filters_after 0 before samples ≡ after
unfolding pass pass_simple pass_biquad simple_value simple_sum biquad_value biquad_sum
both_filters = refl
