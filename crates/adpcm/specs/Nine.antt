-- Number 9 in words of bytes and lengths. `proofs/Nine.antt` proves it of the decoder's answer. Assumes nothing: these are statements.
use Rattle.std.specs.Prelude.{ℕ, ◌+◌, ◌*◌, ◌≤◌, ◌<◌, ◌≡◌, ◌⊎◌, ◌↔◌, List, length, ℤ}
use Rattle.adpcm.specs.Sizes.{frame_bytes, frame_samples, most_samples}
use Rattle.adpcm.specs.Adpcm.{decode_answer}
use Rattle.adpcm.specs.declared.History.{History}

-- the bytes are "ceil(count/14) times 8": frames of eight bytes, enough for `count` samples at 14 in each, and none too many
pub record WholeFrames (bytes : List ℕ) (count : ℕ) : Type 0 where
  pub frames : ℕ
  pub all : length bytes ≡ frames * frame_bytes
  pub enough : count ≤ frames * frame_samples
  pub not_more : frames * frame_samples < count + frame_samples

-- "ADPCM count over 65,536, bytes not ceil(count/14) times 8, or output shorter than count"
abbrev pub Refusable : List ℕ → ℕ → List ℤ → Type 0
Refusable bytes count output = (most_samples < count) ⊎ ((¬ WholeFrames bytes count) ⊎ (length output < count))

-- For all coefficients, histories, bytes, counts and outputs: the decoder answers 9 exactly if that sentence holds, and else 0.
pub record NineExactlyIf : Type 0 where
  pub nine :
      (coefficients : List ℤ) (h : History) (bytes : List ℕ) (count : ℕ) (output : List ℤ)
      → ((decode_answer coefficients h bytes count output).number ≡ 9) ↔ Refusable bytes count output
  pub zero :
      (coefficients : List ℤ) (h : History) (bytes : List ℕ) (count : ℕ) (output : List ℤ)
      → ((decode_answer coefficients h bytes count output).number ≡ 0) ↔ (¬ Refusable bytes count output)
