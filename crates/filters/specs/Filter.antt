-- Module 3 of document 01, one sample of one channel through each filter: "Simple, shift 15, then biquad, shift 14, sums wrapped to 32
-- bits, clamped. They run on produced samples only. Defaults are identities." Assumes nothing: these are definitions.
use Rattle.std.specs.Prelude.{ℕ, ◌+◌, List, get_or, set, ℤ, pos, ◌+ℤ◌, ◌*ℤ◌}
use Rattle.std.specs.Int.Signed.{shr_z}
use Rattle.numbers.specs.Wrap.{wrap32, clamp16}
use Rattle.filters.specs.declared.state.SimpleFilter.{SimpleFilter}
use Rattle.filters.specs.declared.state.BiquadFilter.{BiquadFilter}

-- ---- "Simple, shift 15"

-- b0 x + a1 y1, a whole number
unfoldable pub simple_sum : ℕ → SimpleFilter → ℤ → ℤ
simple_sum channel f x = f.b0 *ℤ x +ℤ f.a1 *ℤ get_or f.y1 channel (pos 0)

-- "sums wrapped to 32 bits, clamped"
unfoldable pub simple_value : ℕ → SimpleFilter → ℤ → ℤ
simple_value channel f x = clamp16 (shr_z (wrap32 (simple_sum channel f x)) 32768)

-- the filter once it gave a value: y1 of the channel is that value
abbrev pub simple_after : ℕ → SimpleFilter → ℤ → SimpleFilter
simple_after channel f value = record { b0 = f.b0; a1 = f.a1; y1 = set f.y1 channel value }

-- ---- "then biquad, shift 14"

-- b0 x0 + b1 x1 + b2 x2 + a1 y1 + a2 y2, a whole number. Of x and y the newer value of a channel stands at its number, the older two places
-- on
unfoldable pub biquad_sum : ℕ → BiquadFilter → ℤ → ℤ
biquad_sum channel f x0 =
    get_or f.b 0 (pos 0) *ℤ x0
    +ℤ get_or f.b 1 (pos 0) *ℤ get_or f.x channel (pos 0)
    +ℤ get_or f.b 2 (pos 0) *ℤ get_or f.x (channel + 2) (pos 0)
    +ℤ get_or f.a 0 (pos 0) *ℤ get_or f.y channel (pos 0)
    +ℤ get_or f.a 1 (pos 0) *ℤ get_or f.y (channel + 2) (pos 0)

unfoldable pub biquad_value : ℕ → BiquadFilter → ℤ → ℤ
biquad_value channel f x0 = clamp16 (shr_z (wrap32 (biquad_sum channel f x0)) 16384)

-- a value kept of a channel: the newer one becomes the older one
abbrev pub moved : ℕ → List ℤ → ℤ → List ℤ
moved channel kept value = set (set kept (channel + 2) (get_or kept channel (pos 0))) channel value

-- the filter once it gave a value for x0
abbrev pub biquad_after : ℕ → BiquadFilter → ℤ → ℤ → BiquadFilter
biquad_after channel f x0 value = record { b = f.b; a = f.a; x = moved channel f.x x0; y = moved channel f.y value }
