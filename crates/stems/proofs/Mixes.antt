-- What one answer leaves of mixes: at each place the sum of what was there and what the voice adds, wrapped; from mixes of 0, what it adds.
-- By cases of the answer. Assumes nothing.
use mathlib.Core.Path.{◌≡◌, sym, ap, ◌∙◌}
use mathlib.Core.List.{List}
use Prim.Native.Nat.{ℕ, ◌<◌}
use lib.IntN.{ℤ, pos, ◌+ℤ◌, +ℤ_idl, +ℤ_idr}
use lib.ListN.{length, get_or, length-replicate, get_or-replicate}
use Rattle.lists.specs.Tabulate.{tabulate}
use Rattle.lists.proofs.Tabulate.{length_tabulate, get_d_tabulate, tabulated}
use Rattle.numbers.specs.Wrap.{wrap32}
use Rattle.mix_voice.specs.Mixed.{summed}
use Rattle.voice_frame.specs.VoiceFrame.{Answer, served, refused, mixed_with, mixes_after}
use Rattle.stems.specs.Call.{adds, no_mixes}

pub mixed_length : (x : Answer) (mixes : List ℤ) → length mixes ≡ 1920 → length (mixes_after x mixes) ≡ 1920
unfolding mixed_with
mixed_length (served r) mixes e = length_tabulate (λ k. summed (get_or mixes k (pos 0)) (get_or r.parts k (pos 0))) 1920
mixed_length (refused n) mixes e = e

pub mixed_at : (x : Answer) (mixes : List ℤ) (i : ℕ) → i < 1920 → wrap32 (get_or mixes i (pos 0)) ≡ get_or mixes i (pos 0)
    → get_or (mixes_after x mixes) i (pos 0) ≡ wrap32 (get_or mixes i (pos 0) +ℤ adds x i)
unfolding mixed_with adds
mixed_at (refused n) mixes i hi e = sym (ap (λ (z : ℤ). wrap32 z) (+ℤ_idr (get_or mixes i (pos 0))) ∙ e)
mixed_at (served r) mixes i hi e = get_d_tabulate (λ k. summed (get_or mixes k (pos 0)) (get_or r.parts k (pos 0))) 1920 i (pos 0) hi

pub mixes_alone : (a : Answer) → mixes_after a no_mixes ≡ tabulate (λ i. wrap32 (adds a i)) 1920
unfolding no_mixes
mixes_alone a =
    tabulated (mixes_after a no_mixes) (λ i. wrap32 (adds a i)) 1920 (pos 0)
    (mixed_length a no_mixes (length-replicate 1920 (pos 0)))
    (λ i h.
    let none : get_or no_mixes i (pos 0) ≡ pos 0 = get_or-replicate 1920 i (pos 0) (pos 0) h in
    mixed_at a no_mixes i h (ap (λ (y : ℤ). wrap32 y) none ∙ sym none)
    ∙ ap (λ (y : ℤ). wrap32 (y +ℤ adds a i)) none ∙ ap (λ (y : ℤ). wrap32 y) (+ℤ_idl (adds a i)))
