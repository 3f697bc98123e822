-- The part of a lane that was decoded gives the samples that the lane does. Assumes nothing.
use mathlib.Core.Path.{◌≡◌, refl, ap, ◌∙◌}
use mathlib.Core.Bool.{Bool, true, false, cond}
use mathlib.Core.List.{List}
use Prim.Native.Nat.{ℕ, ◌≤◌}
use lib.Dec.{ltb}
use lib.IntN.{ℤ, pos}
use lib.ListN.{length, get_or, take}
use borrow.Author.Tests.{ltb-true}
use Rattle.std.proofs.lemmas.List.{get_or-take, length-take-le}
use Rattle.voice.specs.declared.record.Entry.{Entry}
use Rattle.voice.specs.declared.record.Format.{Format}
use Rattle.voice.specs.declared.record.Format.TheVariants.{Pcm8, Pcm16, Adpcm}
use Rattle.samples.specs.Samples.{both, silence, decoded_at, sample_by, sample_at}

module _ (lane : List ℤ) (decoded : ℕ) (inside : decoded ≤ length lane) where
  here : (index : ℕ) (b : Bool) → ltb index decoded ≡ b
      → cond b (both (get_or (take decoded lane) index (pos 0))) silence ≡ cond b (both (get_or lane index (pos 0))) silence
  here index true e = ap both (get_or-take decoded lane index (pos 0) (ltb-true index decoded e))
  here index false e = refl

  decoded_cut : (index : ℕ) → decoded_at (take decoded lane) (length (take decoded lane)) index ≡ decoded_at lane decoded index
  decoded_cut index =
      ap (λ (n : ℕ). decoded_at (take decoded lane) n index) (length-take-le decoded lane inside) ∙ here index (ltb index decoded) refl

  module _ (window : List ℕ) (base : ℕ) (e : Entry) (index : ℕ) where
    by : (f : Format)
        → sample_by window base (take decoded lane) (length (take decoded lane)) f e index ≡ sample_by window base lane decoded f e index
    by Pcm8 = refl
    by Pcm16 = refl
    by Adpcm = decoded_cut index

    pub sample_cut :
        sample_at window base (take decoded lane) (length (take decoded lane)) e index ≡ sample_at window base lane decoded e index
    unfolding sample_at
    sample_cut = by e.format
