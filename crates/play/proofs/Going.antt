-- The invariant of a frame's loop over entries: so many samples of the definition were gone through. A turn of an entry goes on by as many
-- samples as it produced, and where nothing is queued the definition goes no further either. Assumes nothing.
use mathlib.Core.Path.{◌≡◌, refl, sym, ap, ◌∙◌, subst}
use mathlib.Core.Bool.{true, false}
use mathlib.Core.Logic.{⊎_elim}
use mathlib.Core.List.{List, [], ◌++◌}
use Prim.Native.Nat.{ℕ, zero, suc, ◌+◌, ◌-◌, ◌≤◌, ◌<◌}
use native.Mathlib.Omega.{arith}
use lib.IntN.{ℤ, pos}
use lib.ListN.{length, replicate, length-append}
use Rattle.lists.proofs.Bools.{clash}
use Rattle.steps.specs.declared.step.Cursor.{Cursor}
use Rattle.steps.specs.declared.stretch.Reached.{Reached}
use Rattle.steps.specs.Stretch.{after}
use Rattle.numbers.specs.Tests.{is_fraction}
use Rattle.steps.proofs.Compose.{after_less}
use Rattle.steps.proofs.Kept.{moved_ok}
use Rattle.voice.specs.Blank.{places}
use Rattle.voice.specs.Malformed.{WellFormed}
use Rattle.voice.specs.declared.record.Voice.{Voice}
use Rattle.samples.specs.declared.Sample.{Sample}
use Rattle.queue.specs.Search.{searched}
use Rattle.std.proofs.Common.{Option, None, Some}
use Rattle.dequeue.specs.Dequeue.{dequeued, dequeued_lane, dequeued_by, lane_by}
use Rattle.dequeue.proofs.Keeps.{dequeued_formed, dequeued_places, dequeued_lane_long}
use Rattle.track.specs.Track.{track_of, cursor_of}
use Rattle.track.specs.Laid.{laid, Turned}
use Rattle.track.proofs.Onward.{after_suc}
use Rattle.play.specs.Play.{Midst, entering, at, frame_of, opened, sounded, begun_next, next, onward}
use Rattle.play.proofs.Laying.{frame_none, heard, heard_long, laid_frame}
use Rattle.play.proofs.Onwards.{next_plays, next_begins, next_still, onward_none, onward_still, onward_add, onward_turned}

-- a record is as well-formed when its frame begins
pub opened_formed : (L : ℕ) (v : Voice) → WellFormed L v → WellFormed L (opened v)
unfolding opened
opened_formed L v w = record {
  queued = w.queued;
  remaining = w.remaining;
  decoded = w.decoded;
  entries = w.entries;
  rate = w.rate;
  fraction = w.fraction;
  filters = w.filters;
}

module _ (window : List ℕ) (base : ℕ) where
  -- ---- with nothing queued, a dequeue changes nothing

  pub none_lane : (v : Voice) (lane : List ℤ) → (dequeued window base v).found ≡ false → dequeued_lane window base v lane ≡ lane
  unfolding dequeued dequeued_lane
  none_lane v lane = by (searched v.queue v.queued)
    where
      by : (f : Option ℕ) → (dequeued_by window base f v).found ≡ false → lane_by window base f v lane ≡ lane
      by None e = refl
      by (Some place) e = absurd (clash e)

  -- ---- the loop

  -- in the midst of a frame: so many samples were gone through, and where there is room for more nothing remains of the entry
  pub record Going (start : Midst) (L : ℕ) (lane frame : List ℤ) (w : Voice) (output : ℕ) : Type 0 where
    pub samples : List Sample
    pub dequeues : ℕ
    pub gone : onward window base output start ≡ record { voice = w; lane = lane; samples = samples; dequeues = dequeues }
    pub stored : frame ≡ frame_of samples
    pub produced : length samples ≡ output
    pub reach : output ≤ 160
    pub spent : output < 160 → w.remaining ≡ 0
    pub formed : WellFormed L w
    pub places_kept : length w.queue ≡ places
    pub lane_long : length lane ≡ L

  -- about to play an entry: m is the frame so far with the entry at hand
  pub record Ready (start : Midst) (L : ℕ) (frame : List ℤ) (output : ℕ) (m : Midst) : Type 0 where
    pub first : next window base (onward window base output start) ≡ sounded window base m
    pub stored : frame ≡ frame_of m.samples
    pub produced : length m.samples ≡ output
    pub formed : WellFormed L m.voice
    pub places_kept : length m.voice.queue ≡ places
    pub lane_long : length m.lane ≡ L

  -- a record is well-formed at each place of its entry
  pub moved_formed : (L : ℕ) (v : Voice) (n : ℕ) → WellFormed L v → 0 < n
      → WellFormed L (at (after v.rate n (cursor_of v)) v)
  moved_formed L v n w h = record {
    queued = w.queued;
    remaining = omega (arith, after_less v.rate n (cursor_of v), w.remaining);
    decoded = w.decoded;
    entries = w.entries;
    rate = w.rate;
    fraction = fraction_ok n h;
    filters = w.filters;
  }
    where
      fraction_ok : (k : ℕ) → 0 < k → is_fraction (after v.rate k (cursor_of v)).fraction ≡ true
      fraction_ok zero z = absurd (omega arith)
      fraction_ok (suc k) z =
          ap (λ (c : Cursor). is_fraction c.fraction) (after_suc (track_of v) (cursor_of v) k)
          ∙ moved_ok v.rate (after v.rate k (cursor_of v))

  -- an entry is played on
  pub going_on : (start : Midst) (L : ℕ) (frame : List ℤ) (output : ℕ) (m : Midst) (g : Ready start L frame output m)
      (frame' : List ℤ) (r : Reached)
      → output ≤ 160
      → Turned (track_of m.voice) (cursor_of m.voice) (160 - output) r
      → frame' ≡ laid window base m.lane (track_of m.voice) (cursor_of m.voice) output r.count frame
      → Going start L m.lane frame' (at r.cursor m.voice) (output + r.count)
  going_on start L frame output m g frame' r h t e =
      let x = m.voice in
      let new = heard window base m.lane (track_of x) (cursor_of x) r.count in
      let long = length-append m.samples new in
      let many = heard_long window base m.lane (track_of x) (cursor_of x) r.count in
      record {
        samples = m.samples ++ new;
        dequeues = m.dequeues;
        gone =
            sym (onward_add window base start output r.count)
            ∙ onward_turned window base (onward window base output start) m (160 - output) r g.first t
            ∙ ap (λ (c : Cursor). record { voice = at c x; lane = m.lane; samples = m.samples ++ new; dequeues = m.dequeues })
            (sym t.cursor_is);
        stored =
            e
            ∙ sym (λ i. laid window base m.lane (track_of x) (cursor_of x) (g.produced i) r.count (sym g.stored i))
            ∙ laid_frame window base m.lane (track_of x) (cursor_of x) m.samples r.count (omega (arith, g.produced, t.count_most));
        produced = omega (arith, long, many, g.produced);
        reach = omega (arith, t.count_most);
        spent = λ room. ⊎_elim (λ z. absurd (omega (arith, room, z, h))) (λ z. z) t.ended;
        formed = subst (λ (c : Cursor). WellFormed L (at c x)) (sym t.cursor_is) (moved_formed L x r.count g.formed t.some);
        places_kept = g.places_kept;
        lane_long = g.lane_long;
      }

  -- ---- how the loop begins

  module _ (L : ℕ) (v : Voice) (lane frame : List ℤ) (e : frame ≡ replicate 320 (pos 0)) (w : WellFormed L v)
      (q : length v.queue ≡ places) (l : length lane ≡ L) where
    -- with nothing left of an entry
    pub going_none : v.remaining ≡ 0 → Going (entering v lane) L lane frame v 0
    going_none z = record {
      samples = [];
      dequeues = 0;
      gone = onward_none window base _;
      stored = e ∙ sym frame_none;
      produced = refl;
      reach = omega arith;
      spent = λ room. z;
      formed = w;
      places_kept = q;
      lane_long = l;
    }

    -- with the entry at hand
    pub ready_first : (v.remaining ≡ 0 → ⊥) → Ready (entering v lane) L frame 0 (entering v lane)
    ready_first n = record {
      first = ap (next window base) (onward_none window base _) ∙ next_plays window base _ n;
      stored = e ∙ sym frame_none;
      produced = refl;
      formed = w;
      places_kept = q;
      lane_long = l;
    }

  -- ---- how it goes on

  module _ (start : Midst) (L : ℕ) (lane frame : List ℤ) (w : Voice) (output : ℕ) (g : Going start L lane frame w output)
      (room : output < 160) where
    abbrev so_far : Midst
    so_far = record { voice = w; lane = lane; samples = g.samples; dequeues = g.dequeues }

    -- the next entry is at hand
    pub ready_next : (dequeued window base w).found ≡ true → Ready start L frame output (begun_next window base so_far)
    unfolding begun_next
    ready_next f = record {
      first = ap (next window base) g.gone ∙ next_begins window base so_far (g.spent room) f;
      stored = g.stored;
      produced = g.produced;
      formed = dequeued_formed window base L w g.formed g.places_kept;
      places_kept = dequeued_places window base L w g.formed g.places_kept;
      lane_long = dequeued_lane_long window base L w g.formed g.places_kept lane g.lane_long ∙ g.lane_long;
    }

    -- nothing is queued: the frame goes no further
    pub going_stop : (dequeued window base w).found ≡ false → onward window base 160 start ≡ so_far
    going_stop f =
        let all : output + (160 - output) ≡ 160 = omega (arith, g.reach) in
        ap (λ (k : ℕ). onward window base k start) (sym all)
        ∙ sym (onward_add window base start output (160 - output))
        ∙ ap (onward window base (160 - output)) g.gone
        ∙ onward_still window base so_far (next_still window base so_far (g.spent room) f) (160 - output)
