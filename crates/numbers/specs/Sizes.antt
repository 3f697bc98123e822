-- How large a frame and the mixes are. Assumes nothing: these are definitions.
use Rattle.std.specs.Prelude.{ℕ}

-- the samples of a frame, of which each has a left and a right value
abbrev pub FRAME_SAMPLES : ℕ
FRAME_SAMPLES = 160

-- the values of a frame, left and right in turn
abbrev pub FRAME : ℕ
FRAME = 320

-- the values of one mix: four channels, one after the other
abbrev pub MIX : ℕ
MIX = 640

-- the values of the three mixes: "1,920 signed 32-bit numbers (by mix, then channel, then sample)"
abbrev pub MIXES : ℕ
MIXES = 1920

-- the gains of a voice, one for each channel of each mix
abbrev pub GAINS : ℕ
GAINS = 12
