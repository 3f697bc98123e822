-- Where a voice is said to be after a frame, and how a silent frame is spent: a dequeue stores the entry with its start, and a sample moves
-- neither. Assumes nothing.
use mathlib.Core.Path.{◌≡◌, refl, sym, subst}
use mathlib.Core.Bool.{true, false}
use mathlib.Core.List.{List}
use Prim.Native.Nat.{ℕ, zero, suc, ◌-◌, ◌<◌}
use native.Mathlib.Omega.{arith}
use lib.IntN.{ℤ}
use Rattle.numbers.specs.Sizes.{FRAME_SAMPLES}
use Rattle.voice.specs.declared.record.Voice.{Voice}
use Rattle.queue.specs.Search.{least}
use Rattle.queue.proofs.Least.{search_some, search_none}
use Rattle.dequeue.specs.Dequeue.{entry_at, taken, start_of, begun_at, dequeued}
use Rattle.play.specs.Play.{Midst, Frame, is_silent, opened, started, switched_off, ended, sounded, begun_next, played}
use Rattle.play_laws.specs.Laws.{PositionsKept, SilentFrames}
use Rattle.play_laws.proofs.Parts.{prepared_any, dequeued_by_lem, onward_keeps, reached, played_plays}
use Rattle.play_laws.proofs.Parts.{frame_dequeues, frame_off}
use Rattle.play_laws.proofs.Left.{begins_left}

-- of a record, so many dequeues after the start of its frame: it is at the place it began from, or at the start of the entry dequeued last
record Placed (from dequeues : ℕ) (u : Voice) : Type 0 where
  still : dequeues ≡ 0 → u.position ≡ from
  last : 0 < dequeues → u.position ≡ start_of u.playing

begun_placed : (window : List ℕ) (base : ℕ) (v : Voice) → (dequeued window base v).found ≡ true
    → (dequeued window base v).voice.position ≡ start_of (dequeued window base v).voice.playing
unfolding begun_at
begun_placed window base v =
    dequeued_by_lem window base (λ u. u.position ≡ start_of u.playing) v
    (λ place e. prepared_any window base (λ u. u.position ≡ start_of u.playing) (entry_at place v) (taken place v) (λ n h. refl))

module _ (window : List ℕ) (base : ℕ) (v : Voice) (lane : List ℤ) where
  abbrev from : ℕ
  from = v.length - v.remaining

  placed : Placed from (reached window base v lane).dequeues (reached window base v lane).voice
  unfolding sounded begun_next opened
  placed =
      onward_keeps window base (λ (m : Midst). Placed from m.dequeues m.voice) (λ m p. record { still = p.still; last = p.last })
      (λ m p f. record { still = λ z. absurd (omega arith); last = λ z. begun_placed window base m.voice f })
      (started v lane) (record { still = λ z. refl; last = λ z. absurd (omega arith) }) FRAME_SAMPLES

  frame_placed : is_silent v ≡ false → Placed from (played window base v lane).dequeues (played window base v lane).voice
  unfolding ended
  frame_placed s =
      subst (λ (f : Frame). Placed from f.dequeues f.voice) (sym (played_plays window base v lane s))
      (record { still = placed.still; last = placed.last })

pub positions_kept : PositionsKept
unfolding switched_off begun_at
positions_kept window base v lane = record {
  plays = λ s. (frame_placed window base v lane s).still;
  dequeues = λ s. (frame_placed window base v lane s).last;
  silent_dequeue = λ place s e.
      frame_dequeues window base (λ f. f.voice.position ≡ start_of (entry_at place v)) v lane place s e (λ n h. refl);
  off = λ s e. frame_off window base (λ f. f.voice.position ≡ 0) v lane s e refl;
}

-- ---- a silent frame

pub silent_frames : SilentFrames
unfolding switched_off begun_at opened
silent_frames window base v lane s = record {
  none_produced = by v.queued refl;
  dequeuing = λ some.
      let place = least v.queue v.queued in
      frame_dequeues window base (λ f. (f.dequeues ≡ 1) × (f.voice.enabled ≡ v.enabled)) v lane place s
      (search_some v.queue v.queued some) (λ n h. (refl, (begins_left (entry_at place v) place (opened v) n h).enabled));
  off = λ none.
      frame_off window base (λ f. (f.dequeues ≡ 0) × (f.voice.enabled ≡ false)) v lane s
      (search_none v.queue v.queued none) (refl, refl);
}
  where
    by : (n : ℕ) → v.queued ≡ n → (played window base v lane).produced ≡ 0
    by zero e = frame_off window base (λ f. f.produced ≡ 0) v lane s (search_none v.queue v.queued e) refl
    by (suc n) e =
        frame_dequeues window base (λ f. f.produced ≡ 0) v lane (least v.queue v.queued) s
        (search_some v.queue v.queued (λ z. omega (arith, e, z))) (λ k h. refl)
