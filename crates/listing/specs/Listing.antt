-- The decode listing program of document 01: what it prints for an input. Assumes nothing: these are definitions.
use Rattle.std.specs.Prelude.{ℕ, ◌+◌, Bool, cond, List, [], ◌∷◌, ◌++◌, eqb, ℤ, length, take, drop}
use Rattle.numbers.specs.Wrap.{signed16}
use Rattle.little.specs.Little.{at16, signed_halves}
use Rattle.adpcm.specs.Code.{decoded_samples, decoded_history}
use Rattle.adpcm.specs.Adpcm.{sample_of}
use Rattle.adpcm.specs.declared.History.{History}
use Rattle.listing.specs.Text.{ascii, decimal, signed_decimal, column, newline}
use Rattle.listing.specs.Sizes.{width, header, frame_bytes, input_room}

-- ---- the input: "16 coefficients, yn1, yn2, count (all 16 bits, little-endian, count unsigned), then the frames"

-- the 16 coefficients
unfoldable pub coefficients_in : List ℕ → List ℤ
coefficients_in input = signed_halves 16 input

-- yn1 and yn2, the history to go on from
abbrev pub history_in : List ℕ → History
history_in input = record { yn1 = signed16 (at16 input 32); yn2 = signed16 (at16 input 34) }

-- the count, unsigned
abbrev pub count_in : List ℕ → ℕ
count_in input = at16 input 36

-- the frames, all that follows
abbrev pub frames_in : List ℕ → List ℕ
frames_in input = drop header input

-- no bytes are missing or left over: an input that ends before its frames is never complete
abbrev pub complete : List ℕ → Bool
complete input = eqb (length input) (header + frame_bytes (count_in input))

-- the samples that the frames hold
unfoldable pub samples_in : List ℕ → List ℤ
samples_in input = decoded_samples sample_of (coefficients_in input) (history_in input) (frames_in input) (count_in input)

-- the history after the last of them
unfoldable pub last_history_in : List ℕ → History
last_history_in input = decoded_history sample_of (coefficients_in input) (history_in input) (frames_in input) (count_in input)

-- what the program reads of an input: all of it, or as many bytes as its buffer holds
abbrev pub read_of : List ℕ → List ℕ
read_of input = take input_room input

-- ---- the output

-- a line of two columns
abbrev pub row : List ℕ → List ℕ → List ℕ
row left right = column width left ++ (column width right ++ newline)

-- "sample index and value", a line for each sample, from an index on
abbrev pub rows : ℕ → List ℤ → List ℕ
rows index [] = []
rows index (y ∷ samples) = row (decimal index) (signed_decimal y) ++ rows (index + 1) samples

-- the samples under their headings
abbrev pub samples_table : List ℤ → List ℕ
samples_table samples = row (ascii "sample") (ascii "value") ++ rows 0 samples

-- the history under its headings, the newer sample first
abbrev pub history_table : History → List ℕ
history_table h = row (ascii "yn1") (ascii "yn2") ++ row (signed_decimal h.yn1) (signed_decimal h.yn2)

-- "Samples and history each stand under a line of headings"
abbrev pub tables : List ℤ → History → List ℕ
tables samples h = samples_table samples ++ history_table h

-- both tables of what an input holds
abbrev pub tables_of : List ℕ → List ℕ
tables_of input = tables (samples_in input) (last_history_in input)

-- "9 in one column"
abbrev pub only_nine : List ℕ
only_nine = column width (decimal 9) ++ newline

-- what the program prints for an input: "If bytes are missing or left over it prints only 9"
unfoldable pub listed : List ℕ → List ℕ
listed input = cond (complete input) (tables_of input) only_nine
