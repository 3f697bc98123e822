-- The mark of a frame that ended exactly as its entry did, following on, and the silence past the produced samples: each test taken apart.
-- Assumes nothing.
use mathlib.Core.Path.{◌≡◌, refl, sym, ◌∙◌}
use mathlib.Core.Bool.{true, false, not}
use mathlib.Core.List.{List, flat_map}
use mathlib.Core.Logic.{◌↔◌}
use Prim.Native.Nat.{ℕ, ◌-◌, ◌*◌, ◌≤◌, ◌<◌}
use native.Mathlib.Omega.{arith}
use lib.Dec.{eqb}
use lib.IntN.{ℤ, pos}
use lib.ListN.{length, drop, replicate}
use lib.Seq.{drop_at}
use borrow.Author.Tests.{eqb-true, eqb-false, eq-eqb, ne_eqb, not-true}
use Rattle.lists.proofs.Bools.{and_both, and_yes, not_no, clash}
use Rattle.voice.specs.declared.record.Voice.{Voice}
use Rattle.samples.specs.declared.Sample.{Sample}
use Rattle.dequeue.specs.Dequeue.{dequeued, dequeued_lane}
use Rattle.play.specs.Play.{Midst, Frame, sides, frame_of, follows_on, opened, switched_off, ended}
use Rattle.play.proofs.Laying.{values_long}
use Rattle.play_laws.specs.Laws.{FollowsOnExactly, RanOutExactly, SilentPast}
use Rattle.play_laws.proofs.Parts.{silent_by, reached, made_of, played_by}
use Rattle.play_laws.proofs.Counting.{produced_most}
use Rattle.play_laws.proofs.Left.{dequeued_left}

pub follows_on_exactly : FollowsOnExactly
unfolding follows_on
follows_on_exactly v = (
  λ t.
      let both = and_both v.ran_out_at_frame_end (not (eqb v.queued 0)) t in
      (both.0, above (eqb-false v.queued 0 (not-true (eqb v.queued 0) both.1))),
  λ h. and_yes (not (eqb v.queued 0)) h.0 ∙ not_no (ne_eqb v.queued 0 (λ z. omega (arith, h.1, z))),
)
  where
    above : (v.queued ≡ 0 → ⊥) → 0 < v.queued
    above h = omega arith

-- ---- running out

-- what is said of a frame that comes to these
abbrev Out : Frame → Type 0
Out f = f.voice.ran_out_at_frame_end ≡ true ↔ ((f.produced ≡ 160) × (f.voice.remaining ≡ 0))

-- a record with no mark, in a frame that produced nothing
unmarked : (u : Voice) (lane : List ℤ) (dequeues : ℕ) → u.ran_out_at_frame_end ≡ false
    → Out (record { voice = u; lane = lane; produced = 0; dequeues = dequeues })
unmarked u lane dequeues e = (λ t. absurd (clash (sym t ∙ e)), λ h. absurd (omega (arith, h.0)))

played_out : (window : List ℕ) (base : ℕ) (m : Midst) → Out (made_of window base m)
unfolding ended
played_out window base m = (
  λ t.
      let both = and_both (eqb m.voice.remaining 0) (eqb (length m.samples) 160) t in
      (eqb-true (length m.samples) 160 both.1, eqb-true m.voice.remaining 0 both.0),
  λ h. and_yes (eqb (length m.samples) 160) (eq-eqb m.voice.remaining 0 h.1) ∙ eq-eqb (length m.samples) 160 h.0,
)

pub ran_out_exactly : RanOutExactly
unfolding opened switched_off
ran_out_exactly window base v lane =
    played_by window base Out v lane
    (λ s. silent_by window base Out (opened v) lane
    (λ t. unmarked (dequeued window base (opened v)).voice (dequeued_lane window base (opened v) lane) 1
    (dequeued_left window base (opened v) t).mark)
    (λ t. unmarked (switched_off (opened v)) lane 0 refl))
    (λ s. played_out window base (reached window base v lane))

-- ---- past the produced samples

zeros_past : (samples : List Sample) → drop (length samples * 2) (frame_of samples) ≡ replicate (320 - length samples * 2) (pos 0)
unfolding frame_of
zeros_past samples =
    drop_at (flat_map sides samples) (replicate (320 - length samples * 2) (pos 0)) (length samples * 2) (values_long samples)

pub silent_past : SilentPast
unfolding opened switched_off ended
silent_past window base v lane = record {
  most =
      played_by window base (λ f. f.produced ≤ 160) v lane
      (λ s. silent_by window base (λ f. f.produced ≤ 160) (opened v) lane (λ t. omega arith) (λ t. omega arith))
      (λ s. produced_most window base v lane);
  past =
      played_by window base Past v lane
      (λ s. silent_by window base Past (opened v) lane (λ t. (dequeued_left window base (opened v) t).frame) (λ t. refl))
      (λ s. zeros_past (reached window base v lane).samples);
}
  where
    Past : Frame → Type 0
    Past f = drop (f.produced * 2) f.voice.frame ≡ replicate (320 - f.produced * 2) (pos 0)
