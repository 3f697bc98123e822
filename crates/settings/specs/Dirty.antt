-- The dirty word of a configuration: which fields the title changed. Bits under the source's names. Assumes nothing: these are definitions.
use Rattle.std.specs.Prelude.{ℕ, Bool, List}
use Rattle.fields.specs.Fields.{offset_of, configuration}
use Rattle.fields.specs.Flags.{flagged}
use Rattle.little.specs.Little.{at32}

abbrev pub dirty_in : List ℕ → ℕ
dirty_in bytes = at32 bytes (offset_of configuration "DIRTY")

-- a bit of the dirty word is set
abbrev pub flag : List ℕ → ℕ → Bool
flag bytes bit = flagged (dirty_in bytes) bit

abbrev pub FORMAT : ℕ
FORMAT = 0x1

abbrev pub MONO_OR_STEREO : ℕ
MONO_OR_STEREO = 0x2

abbrev pub ADPCM_COEFFICIENTS : ℕ
ADPCM_COEFFICIENTS = 0x4

abbrev pub PARTIAL_EMBEDDED_BUFFER : ℕ
PARTIAL_EMBEDDED_BUFFER = 0x8

abbrev pub PARTIAL_RESET : ℕ
PARTIAL_RESET = 0x10

abbrev pub ENABLE : ℕ
ENABLE = 0x1_0000

abbrev pub INTERPOLATION : ℕ
INTERPOLATION = 0x2_0000

abbrev pub RATE_MULTIPLIER : ℕ
RATE_MULTIPLIER = 0x4_0000

abbrev pub BUFFER_QUEUE : ℕ
BUFFER_QUEUE = 0x8_0000

abbrev pub PLAY_POSITION : ℕ
PLAY_POSITION = 0x20_0000

abbrev pub FILTERS_ENABLED : ℕ
FILTERS_ENABLED = 0x40_0000

abbrev pub SIMPLE_FILTER : ℕ
SIMPLE_FILTER = 0x80_0000

abbrev pub BIQUAD_FILTER : ℕ
BIQUAD_FILTER = 0x100_0000

-- of mix 0; mixes 1 and 2 have the next two
abbrev pub GAIN : ℕ
GAIN = 0x200_0000

abbrev pub SYNC_COUNT : ℕ
SYNC_COUNT = 0x1000_0000

abbrev pub RESET : ℕ
RESET = 0x2000_0000

abbrev pub EMBEDDED_BUFFER : ℕ
EMBEDDED_BUFFER = 0x4000_0000
