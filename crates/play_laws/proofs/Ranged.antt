-- After a frame each field of a record holds a value of its type again, and the lane samples: what a dequeue stores comes from the queue
-- and from 16-bit sums, and a sample leaves less remaining and an f64. Assumes nothing.
use mathlib.Core.Path.{◌≡◌, refl, ◌∙◌}
use mathlib.Core.Bool.{Bool, true, false}
use mathlib.Core.List.{List, [], ◌∷◌, ◌++◌, flat_map}
use Prim.Native.Nat.{ℕ, suc, ◌-◌, ◌^◌, ◌≤◌, ◌<◌, min}
use native.Mathlib.Omega.{arith}
use lib.Ieee.{Float, fits, binary64, add, sub, lt}
use lib.Ieee.Fits.{sub-fits}
use lib.IntN.{ℤ, pos}
use lib.ListN.{get_or, take, drop, set, replicate}
use Rattle.lists.specs.Some.{every}
use Rattle.lists.proofs.Bools.{and_yes, cond_either, is_true}
use Rattle.lists.proofs.Some.{every_at, every_append, every_set, every_take, every_drop, every_replicate}
use Rattle.numbers.specs.Casts.{double}
use Rattle.numbers.specs.Literals.{+0}
use Rattle.numbers.specs.Sizes.{FRAME_SAMPLES}
use Rattle.steps.specs.Step.{consumed, left, moved}
use Rattle.steps.specs.declared.step.Cursor.{Cursor}
use Rattle.steps.proofs.Compose.{moved_less}
use Rattle.adpcm.specs.Adpcm.{sample_of}
use Rattle.adpcm.specs.Code.{decoded_samples}
use Rattle.adpcm.specs.declared.History.{History}
use Rattle.voice.specs.Blank.{blank_entry}
use Rattle.voice.specs.Range.{is_byte, unsigned, signed, history_in_range, entry_tests, entry_in_range, range_tests, in_range}
use Rattle.voice.specs.Set.{set_voice_queue, set_voice_queued, set_voice_position, set_voice_frame, set_voice_ran_out_at_frame_end}
use Rattle.voice.specs.declared.record.Entry.{Entry}
use Rattle.voice.specs.declared.record.Voice.{Voice}
use Rattle.voice.proofs.Range.{unsigned_below, below_unsigned, test_in_range, in_range_test, blank_in_range, zero_sample, zero_double}
use Rattle.queue.specs.Played.{was_played, mark_played}
use Rattle.queue.specs.Removal.{without, removed}
use Rattle.queue.specs.Search.{searched}
use Rattle.std.proofs.Common.{Option, None, Some}
use Rattle.dequeue.specs.Dequeue.{entry_at, taken, start_of, begun_at, decodable, adpcm_in, decoded_lane, prepared_lane, ready}
use Rattle.dequeue.specs.Dequeue.{lane_by, dequeued, dequeued_lane}
use Rattle.track.specs.Track.{track_of, cursor_of}
use Rattle.play.specs.Play.{Midst, at, opened, started, switched_off, ended, sounded, begun_next, played}
use Rattle.play_laws.specs.Laws.{Ranged, KeepsRange}
use Rattle.play_laws.proofs.Parts.{begins, prepared_by, taken_either, dequeued_by_lem, onward_keeps, silent_by, reached, played_by}
use Rattle.play_laws.proofs.Sounds.{decoded_signed, decoded_history_lem, sound_16, AllIn16, more_16, frame_16}

-- ---- an entry

-- what is known of an entry whose fields are in range
record EntryIn (e : Entry) : Type 0 where
  length : e.length < 2 ^ 32
  id : e.id < 2 ^ 16
  history : history_in_range e.adpcm ≡ true
  position : e.play_position < 2 ^ 32

entry_in : (e : Entry) → entry_in_range e ≡ true → EntryIn e
unfolding entry_in_range
entry_in e t =
    let passes : (k : ℕ) → get_or (entry_tests e) k true ≡ true = λ k. every_at (λ t. t) (entry_tests e) k true t refl in
    record {
      length = unsigned_below 32 e.length (passes 1);
      id = unsigned_below 16 e.id (passes 2);
      history = passes 3;
      position = unsigned_below 32 e.play_position (passes 4);
    }

marked_in : (e : Entry) → entry_in_range e ≡ true → entry_in_range (mark_played e) ≡ true
unfolding entry_in_range
marked_in e t = t

start_in : (e : Entry) → e.length < 2 ^ 32 → start_of e < 2 ^ 32
unfolding start_of
start_in e h =
    cond_either (λ (n : ℕ). n < 2 ^ 32) (was_played e) 0 (min e.play_position e.length) (omega arith) (omega arith)

-- ---- a record

abbrev R : Voice → Type 0
R u = in_range u ≡ true

module _ (v : Voice) (r : R v) where
  -- with another queue
  queue_in : (queue : List Entry) → every entry_in_range queue ≡ true → (n : ℕ) → n < 2 ^ 64
      → R (set_voice_queued n (set_voice_queue queue v))
  unfolding in_range
  queue_in queue q n h =
      every_set (λ t. t) (set (range_tests v) 8 (every entry_in_range queue)) 9 (unsigned 64 n)
      (every_set (λ t. t) (range_tests v) 8 (every entry_in_range queue) r q) (below_unsigned 64 n h)

  entry_at_in : (place : ℕ) → entry_in_range (entry_at place v) ≡ true
  entry_at_in place = every_at entry_in_range v.queue place blank_entry (test_in_range v r).queue blank_in_range

  taken_in : (place : ℕ) → R (taken place v)
  unfolding removed without
  taken_in place =
      let i = test_in_range v r in
      let e = mark_played (entry_at place v) in
      taken_either R place v
      (λ l. queue_in (set v.queue place e)
      (every_set entry_in_range v.queue place e i.queue (marked_in (entry_at place v) (entry_at_in place))) v.queued i.queued)
      (λ l. queue_in (without place v.queue) (gone i.queue) (v.queued - 1) (omega (arith, i.queued)))
    where
      gone : every entry_in_range v.queue ≡ true → every entry_in_range (without place v.queue) ≡ true
      gone q =
          every_append entry_in_range (take place v.queue) (drop (suc place) v.queue ++ (blank_entry ∷ []))
          ∙ and_yes _ (every_take entry_in_range place v.queue q)
          ∙ every_append entry_in_range (drop (suc place) v.queue) (blank_entry ∷ [])
          ∙ and_yes _ (every_drop entry_in_range (suc place) v.queue q)
          ∙ and_yes true blank_in_range

-- ---- an entry begins

begins_in : (v : Voice) → R v → (e : Entry) → entry_in_range e ≡ true → (n : ℕ) (h : History) → n ≤ e.length
    → history_in_range h ≡ true → R (begins e v n h)
unfolding begun_at
begins_in v p e t n h l k =
    let i = entry_in e t in
    let r = test_in_range v p in
    in_range_test (begins e v n h)
    (record {
      sync_count = r.sync_count;
      rate = r.rate;
      simple = r.simple;
      biquad = r.biquad;
      gain = r.gain;
      ramp = r.ramp;
      coefficients = r.coefficients;
      history = k;
      queue = r.queue;
      queued = r.queued;
      playing = t;
      decoded = omega (arith, i.length);
      remaining = omega (arith, i.length);
      length = i.length;
      fraction = zero_double;
      current_buffer_id = i.id;
      last_buffer_id = omega arith;
      position = start_in e i.length;
      frame = r.frame;
    })

module _ (window : List ℕ) (base : ℕ) where
  dequeued_in : (v : Voice) → R v → (dequeued window base v).found ≡ true → R (dequeued window base v).voice
  dequeued_in v r =
      dequeued_by_lem window base R v (λ place e.
      let t = entry_at_in v r place in
      let u = taken_in v r place in
      prepared_by (λ (h : History). history_in_range h ≡ true) decoded_history_lem window base R (entry_at place v) (taken place v)
      (entry_in (entry_at place v) t).history (test_in_range (taken place v) u).history (begins_in (taken place v) u (entry_at place v) t))

  lane_in : (v : Voice) (lane : List ℤ) → every (signed 16) lane ≡ true → every (signed 16) (dequeued_lane window base v lane) ≡ true
  unfolding dequeued_lane prepared_lane decoded_lane
  lane_in v lane t = by (searched v.queue v.queued)
    where
      by : (f : Option ℕ) → every (signed 16) (lane_by window base f v lane) ≡ true
      by None = t
      by (Some place) =
          let e = entry_at place v in
          let u = ready window base place v in
          let new = decoded_samples sample_of u.coefficients u.history (adpcm_in window base e) e.length in
          cond_either (λ (l : List ℤ). every (signed 16) l ≡ true) (decodable window base e) (new ++ drop e.length lane) lane
          (every_append (signed 16) new (drop e.length lane)
          ∙ and_yes _ (decoded_signed u.coefficients u.history (adpcm_in window base e) e.length)
          ∙ every_drop (signed 16) e.length lane t)
          t

-- ---- a sample

left_double : (rate : Float) (c : Cursor) → fits binary64 (moved rate c).fraction ≡ true
unfolding moved left
left_double rate c =
    let x = sub binary64 (add binary64 c.fraction rate) (double (pos (consumed rate c))) in
    cond_either (λ (y : Float). fits binary64 y ≡ true) (lt +0 x) x +0 (is_true (fits binary64 x) (sub-fits binary64 _ _)) zero_double

moved_in : (v : Voice) → R v → R (at (moved v.rate (cursor_of v)) v)
unfolding in_range
moved_in v r =
    let c = moved v.rate (cursor_of v) in
    let less : c.remaining < 2 ^ 32 = omega (arith, moved_less v.rate (cursor_of v), (test_in_range v r).remaining) in
    every_set (λ t. t) (set (range_tests v) 12 (unsigned 32 c.remaining)) 14 (fits binary64 c.fraction)
    (every_set (λ t. t) (range_tests v) 12 (unsigned 32 c.remaining) r (below_unsigned 32 c.remaining less))
    (left_double v.rate (cursor_of v))

-- ---- a frame

-- the record with another frame
framed_in : (v : Voice) → R v → (frame : List ℤ) (mark : Bool) → every (signed 16) frame ≡ true
    → R (set_voice_frame frame (set_voice_ran_out_at_frame_end mark v))
unfolding in_range
framed_in v r frame mark f = every_set (λ t. t) (range_tests v) 18 (every (signed 16) frame) r f

opened_in : (v : Voice) → R v → R (opened v)
unfolding opened
opened_in v r = framed_in v r (replicate 320 (pos 0)) false (every_replicate (signed 16) 320 (pos 0) zero_sample)

-- at another position
placed_in : (v : Voice) → R v → (n : ℕ) → n < 2 ^ 32 → R (set_voice_position n v)
unfolding in_range
placed_in v r n h = every_set (λ t. t) (range_tests v) 17 (unsigned 32 n) r (below_unsigned 32 n h)

off_in : (v : Voice) → R v → R (switched_off v)
unfolding switched_off in_range
off_in v r =
    let i = test_in_range v r in
    let last = set (range_tests v) 16 (unsigned 16 v.current_buffer_id) in
    every_set (λ t. t) (set last 15 (unsigned 16 0)) 17 (unsigned 32 0)
    (every_set (λ t. t) last 15 (unsigned 16 0)
    (every_set (λ t. t) (range_tests v) 16 (unsigned 16 v.current_buffer_id) r
    (below_unsigned 16 v.current_buffer_id i.current_buffer_id))
    (below_unsigned 16 0 (omega arith)))
    (below_unsigned 32 0 (omega arith))

-- in the midst of a frame
record Sounds (m : Midst) : Type 0 where
  voice : R m.voice
  lane : every (signed 16) m.lane ≡ true
  samples : AllIn16 m.samples

module _ (window : List ℕ) (base : ℕ) (bytes : every is_byte window ≡ true) where
  sounded_in : (m : Midst) → Sounds m → Sounds (sounded window base m)
  unfolding sounded
  sounded_in m s = record {
    voice = moved_in m.voice s.voice;
    lane = s.lane;
    samples =
        more_16 m.samples _ s.samples (sound_16 window base bytes m.lane s.lane (track_of m.voice) (cursor_of m.voice));
  }

  begun_in : (m : Midst) → Sounds m → (dequeued window base m.voice).found ≡ true → Sounds (begun_next window base m)
  unfolding begun_next
  begun_in m s f = record {
    voice = dequeued_in window base m.voice s.voice f;
    lane = lane_in window base m.voice m.lane s.lane;
    samples = s.samples;
  }

  module _ (v : Voice) (lane : List ℤ) (r : R v) (l : every (signed 16) lane ≡ true) where
    reached_in : Sounds (reached window base v lane)
    unfolding opened flat_map
    reached_in =
        let far : v.length - v.remaining < 2 ^ 32 = omega (arith, (test_in_range v r).length) in
        onward_keeps window base Sounds sounded_in (λ m s f. sounded_in (begun_next window base m) (begun_in m s f))
        (started v lane)
        (record { voice = placed_in v r (v.length - v.remaining) far; lane = l; samples = refl }) FRAME_SAMPLES

    frame_in : Ranged (played window base v lane)
    unfolding ended
    frame_in =
        let s = reached_in in
        let o = opened_in v r in
        played_by window base Ranged v lane
        (λ q. silent_by window base Ranged (opened v) lane
        (λ t. record { voice = dequeued_in window base (opened v) o t; lane = lane_in window base (opened v) lane l })
        (λ t. record { voice = off_in (opened v) o; lane = l }))
        (λ q. record { voice = framed_in _ s.voice _ _ (frame_16 _ s.samples); lane = s.lane })

pub keeps_range : KeepsRange
keeps_range window base v lane b l r = frame_in window base b v lane r l
