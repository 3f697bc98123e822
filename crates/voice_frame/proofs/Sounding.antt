-- What a voice's frame sounds, by its marks: filters that are off change nothing, and playing leaves filters alone. Assumes nothing.
use mathlib.Core.Path.{◌≡◌, sym, ap, ◌∙◌, subst}
use mathlib.Core.Bool.{false}
use mathlib.Core.List.{List, ◌++◌}
use Prim.Native.Nat.{ℕ, ◌*◌, ◌≤◌}
use lib.Dec.{T}
use lib.IntN.{ℤ}
use lib.ListN.{length, take, drop, take-append-drop}
use Rattle.filters.specs.Range.{filters_in_range}
use Rattle.filters.specs.declared.state.Filters.{Filters}
use Rattle.filters.proofs.Marks.{Off, off, marked}
use Rattle.voice.specs.Malformed.{WellFormed}
use Rattle.voice.specs.Set.{set_voice_filters, set_voice_frame}
use Rattle.voice.specs.declared.record.Voice.{Voice}
use Rattle.play.specs.Play.{played}
use Rattle.play_laws.specs.Laws.{Settings}
use Rattle.play_laws.proofs.Left.{settings_left}
use Rattle.play_laws.proofs.Marks.{silent_past}
use Rattle.voice_frame.specs.VoiceFrame.{filtered}

-- a frame of a voice whose filters are off is the frame
pub filtered_off : (n : ℕ) (v : Voice) → v.filters.has_simple ≡ false → v.filters.has_biquad ≡ false → filtered n v ≡ v
unfolding filtered
filtered_off n v s b =
    let samples = take (n * 2) v.frame in
    let o = marked (λ (f : Filters). Off 0 f samples) v.filters false false s b
    (off 0 v.filters.simple v.filters.biquad samples) in
    let same = ap (λ (l : List ℤ). l ++ drop (n * 2) v.frame) (sym o.0) ∙ take-append-drop (n * 2) v.frame in
    λ i. set_voice_frame (same i) (set_voice_filters (sym o.1 i) v)

module _ (window : List ℕ) (base : ℕ) (v : Voice) (lane : List ℤ) where
  -- a frame leaves filters that can be run
  pub played_range : WellFormed (length lane) v → T (filters_in_range (played window base v lane).voice.filters)
  played_range w =
      subst (λ (f : Filters). T (filters_in_range f)) (sym (ap (λ (s : Settings). s.filters) (settings_left window base v lane)))
      (subst T (sym w.filters) tt)

  pub played_most : (played window base v lane).produced ≤ 160
  played_most = (silent_past window base v lane).most
