-- What is decoded fits the lane, and its bytes are all there. Assumes nothing.
use mathlib.Core.Path.{◌≡◌, sym, ap, ◌∙◌}
use mathlib.Core.Bool.{true, false}
use mathlib.Core.List.{List, ◌++◌}
use Prim.Native.Nat.{ℕ, ◌≤◌}
use lib.Dec.{ltb}
use lib.IntN.{ℤ}
use lib.ListN.{length, take, drop}
use lib.Seq.{drop-length}
use borrow.Author.Tests.{ltb-false}
use Rattle.std.proofs.lemmas.List.{append-nil, length-take-le}
use Rattle.lists.proofs.Bools.{and_both, and_yes}
use Rattle.window.proofs.Bytes.{there_long}
use Rattle.voice.specs.Long.{is_adpcm, too_long}
use Rattle.voice.specs.declared.record.Entry.{Entry}
use Rattle.voice.specs.declared.record.Voice.{Voice}
use Rattle.adpcm.specs.Adpcm.{sample_of}
use Rattle.adpcm.specs.Code.{decoded_samples}
use Rattle.dequeue.specs.Dequeue.{aligned, bytes_of, decodable, adpcm_in, decoded_lane}

-- an ADPCM entry that is not too long fits the lane
fits_lane : (L : ℕ) (e : Entry) → too_long L e ≡ false → is_adpcm e.format ≡ true → e.length ≤ L
unfolding too_long
fits_lane L e t a = ltb-false L e.length (sym (and_yes (ltb L e.length) a) ∙ t)

module _ (window : List ℕ) (base : ℕ) (e : Entry) where
  -- the entry fits the lane where it is decoded
  pub decodable_fits : (L : ℕ) → too_long L e ≡ false → decodable window base e ≡ true → e.length ≤ L
  unfolding decodable
  decodable_fits L t d = fits_lane L e t (and_both _ _ d).0

  -- and its bytes are all there
  pub decodable_whole : decodable window base e ≡ true → length (adpcm_in window base e) ≡ bytes_of window base e
  unfolding decodable
  decodable_whole d = there_long window base (aligned e.address) (bytes_of window base e) (and_both (is_adpcm e.format) _ d).1

-- decoding into the first places of a lane, with the rest as it was
module _ (bytes : List ℕ) (v : Voice) (lane : List ℤ) (n : ℕ) where
  pub lane_cut : n ≤ length lane → decoded_lane bytes (length (take n lane)) v (take n lane) ++ drop n lane ≡ decoded_lane bytes n v lane
  unfolding decoded_lane
  lane_cut inside =
      ap (λ (l : List ℤ). (samples (length (take n lane)) ++ l) ++ drop n lane) (drop-length (take n lane))
      ∙ ap (λ (l : List ℤ). l ++ drop n lane) (append-nil (samples (length (take n lane))))
      ∙ ap (λ (k : ℕ). samples k ++ drop n lane) (length-take-le n lane inside)
    where
      samples : ℕ → List ℤ
      samples k = decoded_samples sample_of v.coefficients v.history bytes k
