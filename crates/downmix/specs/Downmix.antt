-- The final samples, in f32: "every multiply, add and divide rounds once, in the source's order", then the program's own cast.
-- Assumes nothing: these are definitions.
use Rattle.std.specs.Prelude.{ℕ, ◌+◌, ◌*◌, ◌/◌, ◌%◌, List, ℤ, pos, ◌+ℤ◌, get_or, Float}
use Rattle.numbers.specs.Casts.{cast_i32, single}
use Rattle.numbers.specs.Single.{◌⊕◌, ◌⊗◌, ◌⊘◌}
use Rattle.numbers.specs.Wrap.{clamp16}
use Rattle.lists.specs.Tabulate.{tabulate}
use Rattle.numbers.specs.Sizes.{FRAME_SAMPLES, FRAME}
use Rattle.mixer_state.specs.State.{volume_of}
use Rattle.mixer_state.specs.declared.Mixer.{Mixer}
use Rattle.mixer_state.specs.declared.Output.{Output}
use Rattle.mixer_state.specs.declared.Output.TheVariants.{Mono, Stereo}

-- a mix value at its mix's volume
abbrev pub at_volume : Float → ℤ → Float
at_volume volume value = single value ⊗ volume

-- what a mono output has of a mix: half the sum of its channels, taken from the left
abbrev pub mono : Float → ℤ → ℤ → ℤ → ℤ → Float
mono v a b c d = (at_volume v a ⊕ at_volume v b ⊕ at_volume v c ⊕ at_volume v d) ⊘ single (pos 2)

-- what one side of a stereo output has of it: the sum of that side's channels
abbrev pub side : Float → ℤ → ℤ → Float
side v a c = at_volume v a ⊕ at_volume v c

-- either as a part of the output's value, clamped to 16 bits by itself
abbrev pub part_of : Float → ℤ
part_of x = clamp16 (cast_i32 x)

unfoldable pub mono_part : Float → ℤ → ℤ → ℤ → ℤ → ℤ
mono_part v a b c d = part_of (mono v a b c d)

unfoldable pub stereo_part : Float → ℤ → ℤ → ℤ
stereo_part v a c = part_of (side v a c)

-- "added in turn, clamped after each"
unfoldable pub added : ℤ → ℤ → ℤ
added out part = clamp16 (out +ℤ part)

-- ---- a frame: 160 pairs flat, value k the sample k / 2 of the left side where k is even, of the right where it is odd

-- the value of a sample in a channel of a mix, whose values lie "by mix, then channel, then sample"
abbrev pub value_at : List ℤ → ℕ → ℕ → ℤ
value_at mix channel sample = get_or mix (channel * FRAME_SAMPLES + sample) (pos 0)

-- what a mix adds to value k: mono takes all four channels, the left side of stereo channels 0 and 2, the right 1 and 3
abbrev pub part_at : Output → Float → List ℤ → ℕ → ℤ
part_at Mono volume mix k =
    mono_part volume (value_at mix 0 (k / 2)) (value_at mix 1 (k / 2)) (value_at mix 2 (k / 2)) (value_at mix 3 (k / 2))
part_at Stereo volume mix k = stereo_part volume (value_at mix (k % 2) (k / 2)) (value_at mix (k % 2 + 2) (k / 2))

-- a frame with a mix's part added to each value
unfoldable pub mixed_in : Output → Float → List ℤ → List ℤ → List ℤ
mixed_in output volume mix frame = tabulate (λ k. added (get_or frame k (pos 0)) (part_at output volume mix k)) FRAME

-- mix k is added at the state's volume k, by the state's output kind
abbrev pub downmixed : Mixer → ℕ → List ℤ → List ℤ → List ℤ
downmixed state k mix frame = mixed_in state.output (volume_of state k) mix frame
