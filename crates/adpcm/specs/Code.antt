-- Module 2 of document 01: the coding. Frames of eight bytes, a header and 14 nibbles, each nibble with its frame's numbers the code of
-- one sample. Assumes nothing: these are definitions.
use Rattle.std.specs.Prelude.{ℕ, zero, suc, ◌+◌, ◌-◌, ◌*◌, ◌/◌, ◌%◌, ◌^◌, cond, List, [], ◌∷◌, ◌++◌, map, ltb, take, drop, get_or, ℤ, pos}
use Rattle.std.specs.Prelude.{negsuc, ◌+ℤ◌, ◌*ℤ◌}
use Rattle.adpcm.specs.declared.History.{History}

-- what one sample is coded as: the exponent of its scale, the two coefficients of its predictor, and its nibble
pub record Code : Type 0 where
  pub exponent : ℕ
  pub c1 : ℤ
  pub c2 : ℤ
  pub nibble : ℕ

abbrev pub code : ℕ → ℤ → ℤ → ℕ → Code
code exponent c1 c2 nibble = record { exponent = exponent; c1 = c1; c2 = c2; nibble = nibble }

-- "High nibble first"
abbrev pub first_nibble : ℕ → ℕ
first_nibble b = b / 16

abbrev pub second_nibble : ℕ → ℕ
second_nibble b = b % 16

-- two of each byte
abbrev pub nibbles : List ℕ → List ℕ
nibbles [] = []
nibbles (b ∷ bytes) = first_nibble b ∷ second_nibble b ∷ nibbles bytes

-- the codes of a frame whose header says these numbers
abbrev pub codes_by : ℕ → ℤ → ℤ → List ℕ → List Code
codes_by exponent c1 c2 frame = map (code exponent c1 c2) (nibbles (drop 1 frame))

-- "Header: low nibble is the scale exponent, (header >> 4) & 7 the predictor"
abbrev pub exponent_of : List ℕ → ℕ
exponent_of frame = get_or frame 0 0 % 16

abbrev pub predictor_of : List ℕ → ℕ
predictor_of frame = get_or frame 0 0 / 16 % 8

-- a frame's 14 codes: of the 16 coefficients the predictor names a pair
abbrev pub frame_codes : List ℤ → List ℕ → List Code
frame_codes coefficients frame =
    codes_by (exponent_of frame) (get_or coefficients (predictor_of frame * 2) (pos 0))
    (get_or coefficients (predictor_of frame * 2 + 1) (pos 0)) frame

-- the codes of so many frames of eight bytes
abbrev pub codes_of : ℕ → List ℤ → List ℕ → List Code
codes_of zero coefficients bytes = []
codes_of (suc frames) coefficients bytes = frame_codes coefficients (take 8 bytes) ++ codes_of frames coefficients (drop 8 bytes)

-- how many frames hold so many samples: ceil(count / 14)
abbrev pub frames_of : ℕ → ℕ
frames_of count = (count + 13) / 14

-- the nibble is signed: from -8 to 7
abbrev pub signed_nibble : ℕ → ℤ
signed_nibble n = cond (ltb n 8) (pos n) (negsuc (15 - n))

-- "((nibble times scale) << 11) + 0x400 + c1 times yn1 + c2 times yn2", a whole number
unfoldable pub sum_of : History → Code → ℤ
sum_of h c = signed_nibble c.nibble *ℤ pos (2 ^ c.exponent) *ℤ pos 2048 +ℤ pos 1024 +ℤ c.c1 *ℤ h.yn1 +ℤ c.c2 *ℤ h.yn2

-- Decoding, whatever sample a code gives after a history: samples in turn, each the newest of the history that the next one sees.
module _ (sample : History → Code → ℤ) where
  abbrev pub after : History → Code → History
  after h c = record { yn1 = sample h c; yn2 = h.yn1 }

  abbrev pub samples_of : History → List Code → List ℤ
  samples_of h [] = []
  samples_of h (c ∷ codes) = sample h c ∷ samples_of (after h c) codes

  abbrev pub history_after : History → List Code → History
  history_after h [] = h
  history_after h (c ∷ codes) = history_after (after h c) codes

  -- `count` samples of the frames in `bytes`, and the history, which "ends at the last sample made"
  abbrev pub decoded_samples : List ℤ → History → List ℕ → ℕ → List ℤ
  decoded_samples coefficients h bytes count = samples_of h (take count (codes_of (frames_of count) coefficients bytes))

  abbrev pub decoded_history : List ℤ → History → List ℕ → ℕ → History
  decoded_history coefficients h bytes count = history_after h (take count (codes_of (frames_of count) coefficients bytes))
