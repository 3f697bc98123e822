-- The sizes of the decode listing's input and output, each named once. Assumes nothing: these are definitions.
use Rattle.std.specs.Prelude.{ℕ, ◌+◌, ◌*◌}
use Rattle.adpcm.specs.Code.{frames_of}

-- "Columns are 8 wide"
abbrev pub width : ℕ
width = 8

-- a line: two columns and a newline
abbrev pub line_bytes : ℕ
line_bytes = 2 * width + 1

-- the input before the frames: "16 coefficients, yn1, yn2, count (all 16 bits"
abbrev pub header : ℕ
header = (16 + 3) * 2

-- the largest count of 16 bits
abbrev pub most_samples : ℕ
most_samples = 65535

-- the bytes that hold so many samples: frames of eight
abbrev pub frame_bytes : ℕ → ℕ
frame_bytes count = frames_of count * 8

-- the longest input that is complete
abbrev pub longest : ℕ
longest = header + frame_bytes most_samples

-- the program's buffer for its input: one byte more, by which bytes left over are noticed
abbrev pub input_room : ℕ
input_room = longest + 1

-- the longest listing: a line for each sample, two lines of headings and the history
abbrev pub output_room : ℕ
output_room = (most_samples + 3) * line_bytes
