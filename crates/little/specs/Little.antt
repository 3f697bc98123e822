-- Numbers in bytes. Assumes nothing: these are definitions.
use Rattle.std.specs.Prelude.{ℕ, ◌+◌, ◌*◌, ◌/◌, ◌%◌, List, [], ◌∷◌, ◌++◌, get_or, ℤ}
use Rattle.lists.specs.Tabulate.{tabulate}
use Rattle.numbers.specs.Wrap.{signed16}

-- the 16-bit number at a place, "little-endian": the lower byte first
abbrev pub at16 : List ℕ → ℕ → ℕ
at16 s at = get_or s (at + 1) 0 * 256 + get_or s at 0

-- so many signed 16-bit numbers, from the first byte on
abbrev pub signed_halves : ℕ → List ℕ → List ℤ
signed_halves n bytes = tabulate (λ i. signed16 (at16 bytes (i * 2))) n

-- the 32-bit number at a place, the lower half first
abbrev pub at32 : List ℕ → ℕ → ℕ
at32 s at = at16 s (at + 2) * 65536 + at16 s at

-- the dsp32 at a place: "two little-endian halves, high half first"
abbrev pub at_dsp32 : List ℕ → ℕ → ℕ
at_dsp32 s at = at16 s at * 65536 + at16 s (at + 2)

-- the two bytes of a 16-bit number
abbrev pub bytes16 : ℕ → List ℕ
bytes16 n = n % 256 ∷ n / 256 ∷ []

-- the four bytes of a 32-bit number
abbrev pub bytes32 : ℕ → List ℕ
bytes32 n = bytes16 (n % 65536) ++ bytes16 (n / 65536)

-- the four bytes of a dsp32
abbrev pub dsp32_bytes : ℕ → List ℕ
dsp32_bytes n = bytes16 (n / 65536) ++ bytes16 (n % 65536)
