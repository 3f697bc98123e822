-- Module 2 of document 01: ADPCM as the source decodes it, its sums wrapped to 32 bits, and the decoder's answer.
-- Assumes nothing: these are definitions.
use Rattle.std.specs.Prelude.{ℕ, ◌*◌, Bool, not, ◌||◌, cond, List, ◌++◌, eqb, ltb, length, drop, ℤ}
use Rattle.std.specs.Int.Signed.{shr_z}
use Rattle.numbers.specs.Wrap.{wrap32, clamp16}
use Rattle.adpcm.specs.Sizes.{frame_bytes, most_samples}
use Rattle.adpcm.specs.Code.{Code, sum_of, frames_of, decoded_samples, decoded_history}
use Rattle.adpcm.specs.declared.History.{History}
use Rattle.adpcm.specs.Decoded.{Decoded}

-- the sample of a sum: "the shift right by 11 rounds toward minus infinity; clamp to 16 bits"
abbrev pub scaled_down : ℤ → ℤ
scaled_down sum = clamp16 (shr_z sum 2048)

-- the sample of a code after a history: the sum "wrapped to 32 bits", then scaled down
unfoldable pub sample_of : History → Code → ℤ
sample_of h c = scaled_down (wrap32 (sum_of h c))

-- number 9: "ADPCM count over 65,536, bytes not ceil(count/14) times 8, or output shorter than count"
abbrev pub refused : ℕ → ℕ → ℕ → Bool
refused bytes count places = ltb most_samples count || (not (eqb bytes (frames_of count * frame_bytes)) || ltb places count)

-- what a decode answers: 9 and the history it was given, or 0 and the history after the last sample made
abbrev pub decode_answer : List ℤ → History → List ℕ → ℕ → List ℤ → Decoded
decode_answer coefficients h bytes count old =
    cond (refused (length bytes) count (length old)) (record { number = 9; history = h })
    (record { number = 0; history = decoded_history sample_of coefficients h bytes count })

-- what it leaves in the output: all as it was, or the samples and, past them, all as it was
abbrev pub decode_output : List ℤ → History → List ℕ → ℕ → List ℤ → List ℤ
decode_output coefficients h bytes count old =
    cond (refused (length bytes) count (length old)) old (decoded_samples sample_of coefficients h bytes count ++ drop count old)
