-- How a mix and the final samples stand in bytes. Assumes nothing: these are definitions.
use Rattle.std.specs.Prelude.{ℕ, ◌*◌, ℤ}
use mathlib.Core.List.{List, flat_map}
use Rattle.lists.specs.Tabulate.{tabulate}
use Rattle.numbers.specs.Wrap.{mod_z, signed32}
use Rattle.little.specs.Little.{at32, bytes16, bytes32}
use Rattle.numbers.specs.Sizes.{MIX}

-- a mix as bytes: each value's 32 bits, "little-endian"
abbrev pub word_of : ℤ → List ℕ
word_of value = bytes32 (mod_z value 4294967296)

unfoldable pub word_bytes : List ℤ → List ℕ
word_bytes mix = flat_map word_of mix

-- the mix that bytes hold
unfoldable pub words_in : List ℕ → List ℤ
words_in bytes = tabulate (λ i. signed32 (at32 bytes (i * 4))) MIX

-- final samples as bytes: each value's 16 bits, "little-endian"
abbrev pub half_of : ℤ → List ℕ
half_of value = bytes16 (mod_z value 65536)

unfoldable pub sample_bytes : List ℤ → List ℕ
sample_bytes frame = flat_map half_of frame
