-- Where document 01's decode is that of the public description. `proofs/Public.antt` proves it. Assumes nothing: this is a statement.
use Rattle.std.specs.Prelude.{ℕ, ◌*◌, ◌≤◌, ◌<◌, ◌≡◌, List, length, get_or, ℤ, pos, neg_ℤ, ◌≤ℤ◌}
use Rattle.adpcm.specs.Code.{decoded_samples, decoded_history}
use Rattle.adpcm.specs.Adpcm.{sample_of}
use Rattle.adpcm.specs.Public.{header, public_sum, public_samples, public_history}
use Rattle.adpcm.specs.declared.History.{History}

-- z fits 32 signed bits: from -2147483648 to 2147483647
abbrev pub Fits32 : ℤ → Type 0
Fits32 z = (neg_ℤ (pos 2147483648) ≤ℤ z) × (z ≤ℤ pos 2147483647)

-- For all coefficients, histories, bytes (numbers below 256) and counts, where the bytes have frames enough for the count: if bit 7 of
-- every sample's header is clear, and the public description's own sum of every sample fits 32 signed bits, then both give the same samples
-- and the same history after them.
pub record AgreesWithPublished : Type 0 where
  pub holds :
      (coefficients : List ℤ) (h : History) (bytes : List ℕ) (count frames : ℕ)
      → ((i : ℕ) → get_or bytes i 0 < 256)
      → count ≤ frames * 14
      → frames * 8 ≤ length bytes
      → ((n : ℕ) → n < count → header bytes n < 128)
      → ((n : ℕ) → n < count → Fits32 (public_sum coefficients bytes (public_history coefficients h bytes n) n))
      → (decoded_samples sample_of coefficients h bytes count ≡ public_samples coefficients h bytes count)
      × (decoded_history sample_of coefficients h bytes count ≡ public_history coefficients h bytes count)
