-- An ADPCM entry is decoded once: its samples come from the lane, so that a frame which dequeues nothing is the same in every window. A
-- sample at a time, while nothing is dequeued. Assumes nothing.
use mathlib.Core.Path.{◌≡◌, refl, sym, ap, ◌∙◌}
use mathlib.Core.Bool.{Bool, true, false, cond, ◌||◌}
use mathlib.Core.List.{List, [], ◌∷◌, ◌++◌}
use Prim.Native.Nat.{ℕ, zero, suc, ◌+◌, ◌≤◌}
use native.Mathlib.Omega.{arith}
use lib.Dec.{eqb}
use lib.Ieee.{eq}
use lib.IntN.{ℤ}
use Rattle.numbers.specs.Sizes.{FRAME_SAMPLES}
use Rattle.numbers.specs.Literals.{+0}
use Rattle.steps.specs.Step.{moved}
use Rattle.steps.specs.declared.step.Cursor.{Cursor}
use Rattle.voice.specs.declared.record.Format.{Format}
use Rattle.voice.specs.declared.record.Format.TheVariants.{Adpcm}
use Rattle.voice.specs.declared.record.Entry.{Entry}
use Rattle.voice.specs.declared.record.Voice.{Voice}
use Rattle.samples.specs.Samples.{sample_by, sample_at}
use Rattle.samples.specs.declared.Sample.{Sample}
use Rattle.queue.specs.Search.{searched}
use Rattle.std.proofs.Common.{Option, None, Some}
use Rattle.dequeue.specs.Dequeue.{dequeued_by, dequeued}
use Rattle.track.specs.declared.Track.{Track}
use Rattle.track.specs.Track.{track_of, cursor_of, between_samples, heard_by, heard_at, place_of, sound_of}
use Rattle.play.specs.Play.{Midst, Frame, at, started, sounded, begun_next, next, onward}
use Rattle.play_laws.specs.Laws.{Entries, DecodedOnce}
use Rattle.play_laws.proofs.Parts.{next_by, reached, made_of, played_plays}
use Rattle.play_laws.proofs.Counting.{onward_idle}

-- what a track plays is an ADPCM entry, where it plays one
abbrev PlaysAdpcm : Track → Type 0
PlaysAdpcm t = (e : Entry) → t.playing ≡ Some e → e.format ≡ Adpcm

track_adpcm : (v : Voice) → v.playing.format ≡ Adpcm → PlaysAdpcm (track_of v)
track_adpcm v a = by v.has_playing
  where
    by : (b : Bool) (e : Entry) → cond b (Some v.playing) None ≡ Some e → e.format ≡ Adpcm
    by true e is = let same : v.playing ≡ e = cc is in ap (λ (x : Entry). x.format) (sym same) ∙ a
    by false e is = cc is

module _ (window other : List ℕ) (base there : ℕ) where
  -- ---- one sample of an ADPCM entry

  module _ (lane : List ℤ) (t : Track) (adpcm : PlaysAdpcm t) where
    sample_once : (e : Entry) → e.format ≡ Adpcm → (place : ℕ)
        → sample_at window base lane t.decoded e place ≡ sample_at other there lane t.decoded e place
    unfolding sample_at
    sample_once e is place =
        ap (λ (f : Format). sample_by window base lane t.decoded f e place) is
        ∙ sym (ap (λ (f : Format). sample_by other there lane t.decoded f e place) is)

    heard_once : (place : ℕ) → heard_at window base lane t place ≡ heard_at other there lane t place
    unfolding heard_at
    heard_once place = by t.playing refl
      where
        by : (o : Option Entry) → t.playing ≡ o → heard_by window base lane t o place ≡ heard_by other there lane t o place
        by None is = refl
        by (Some e) is = sample_once e (adpcm e is) _

    sound_once : (c : Cursor) → sound_of window base lane t c ≡ sound_of other there lane t c
    unfolding sound_of
    sound_once c =
        λ i. cond (t.plain || eq c.fraction +0) (heard_once (place_of window base lane t c) i)
        (between_samples (heard_once (place_of window base lane t c) i) (heard_once (place_of window base lane t c + 1) i) c.fraction)

  -- ---- one sample more

  sounded_once : (m : Midst) → m.voice.playing.format ≡ Adpcm → sounded window base m ≡ sounded other there m
  unfolding sounded
  sounded_once m a = ap
      (λ (s : Sample). record {
        voice = at (moved m.voice.rate (cursor_of m.voice)) m.voice;
        lane = m.lane;
        samples = m.samples ++ (s ∷ []);
        dequeues = m.dequeues;
      })
      (sound_once m.lane (track_of m.voice) (track_adpcm m.voice a) (cursor_of m.voice))

  next_once : (m : Midst) → m.voice.playing.format ≡ Adpcm → (next window base m).dequeues ≡ m.dequeues
      → next window base m ≡ next other there m
  unfolding next dequeued sounded begun_next
  next_once m a = by (eqb m.voice.remaining 0) (searched m.voice.queue m.voice.queued)
    where
      goes : List ℕ → ℕ → Bool → Option ℕ → Midst
      goes w b z f = cond z (cond (dequeued_by w b f m.voice).found (sounded w b (begun_next w b m)) m) (sounded w b m)

      by : (z : Bool) (f : Option ℕ) → (goes window base z f).dequeues ≡ m.dequeues → goes window base z f ≡ goes other there z f
      by false f e = sounded_once m a
      by true None e = refl
      by true (Some place) e = absurd (omega (arith, e))

  next_more : (m : Midst) → m.dequeues ≤ (next window base m).dequeues
  unfolding sounded begun_next
  next_more m = next_by window base (λ x. m.dequeues ≤ x.dequeues) m (omega arith) (λ f. omega arith) (omega arith)

  -- ---- a frame

  onward_once : (v : Voice) (lane : List ℤ) → v.playing.format ≡ Adpcm → (n : ℕ)
      → (onward window base n (started v lane)).dequeues ≡ 0
      → onward window base n (started v lane) ≡ onward other there n (started v lane)
  unfolding onward
  onward_once v lane a zero e = refl
  onward_once v lane a (suc n) e =
      let m = onward window base n (started v lane) in
      let none : m.dequeues ≡ 0 = omega (arith, next_more m, e) in
      let adpcm : m.voice.playing.format ≡ Adpcm =
      ap (λ (x : Entries). x.playing.format) (onward_idle window base v lane n none) ∙ a in
      next_once m adpcm (e ∙ sym none) ∙ ap (next other there) (onward_once v lane a n none)

pub decoded_once : DecodedOnce
decoded_once window other base there v lane a s e =
    let here = played_plays window base v lane s in
    let none : (reached window base v lane).dequeues ≡ 0 = sym (ap (λ (f : Frame). f.dequeues) here) ∙ e in
    here
    ∙ ap (made_of window base) (onward_once window other base there v lane a FRAME_SAMPLES none)
    ∙ sym (played_plays other there v lane s)
