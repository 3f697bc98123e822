-- The sizes of ADPCM data. Assumes nothing: these are definitions.
use Rattle.std.specs.Prelude.{ℕ}

-- a frame: a header and 14 nibbles in seven bytes
abbrev pub frame_bytes : ℕ
frame_bytes = 8

abbrev pub frame_samples : ℕ
frame_samples = 14

-- the most samples of one decode: "ADPCM count over 65,536" is refused
abbrev pub most_samples : ℕ
most_samples = 65536
