-- How many bytes the final samples and the mixes take: "final samples 640, intermediate samples 5,120". Assumes nothing: these are
-- definitions.
use Rattle.std.specs.Prelude.{ℕ, ◌*◌}
use Rattle.numbers.specs.Sizes.{FRAME, MIX}

abbrev pub final_bytes : ℕ
final_bytes = 2 * FRAME

-- the intermediate samples are the mixes of two aux buses, each value in four bytes
abbrev pub aux_bytes : ℕ
aux_bytes = 4 * MIX

abbrev pub intermediate_bytes : ℕ
intermediate_bytes = 2 * aux_bytes
