-- What a frame produces and dequeues: at most a frame's samples, and for each dequeue at least one of them; without a dequeue nothing of an
-- entry has changed, and each takes one entry from a queue in which nothing loops. By what one sample more does. Assumes nothing.
use mathlib.Core.Path.{◌≡◌, refl, sym, ap, ◌∙◌}
use mathlib.Core.Bool.{Bool, true, false}
use mathlib.Core.List.{List, [], ◌∷◌}
use mathlib.Core.Logic.{⊎_elim}
use Prim.Native.Nat.{ℕ, zero, suc, ◌+◌, ◌≤◌, ◌<◌}
use native.Mathlib.Omega.{arith}
use lib.IntN.{ℤ}
use lib.ListN.{length, get_or, length-append, length-take}
use lib.Seq.{get_or-take}
use Rattle.lists.specs.Some.{some}
use Rattle.lists.proofs.Bools.{clash}
use Rattle.lists.proofs.Some.{none_each, each_none}
use Rattle.lists.proofs.Walk.{below_or}
use Rattle.numbers.specs.Sizes.{FRAME_SAMPLES}
use Rattle.voice.specs.Blank.{blank_entry}
use Rattle.voice.specs.Malformed.{queued_in}
use Rattle.voice.specs.declared.record.Entry.{Entry}
use Rattle.voice.specs.declared.record.Voice.{Voice}
use Rattle.queue.specs.Removal.{removed}
use Rattle.queue.proofs.Least.{found_queued}
use Rattle.queue.proofs.Removal.{without_length, without_before, without_next}
use Rattle.dequeue.specs.Dequeue.{entry_at, taken, begun_at, dequeued}
use Rattle.track.specs.Track.{track_of, cursor_of, sound_of}
use Rattle.play.specs.Play.{Midst, opened, started, switched_off, ended, sounded, begun_next, next, onward}
use Rattle.play_laws.specs.Laws.{AtMost160, entries_of, DequeuesCounted}
use Rattle.play_laws.proofs.Parts.{prepared_any, taken_either, dequeued_by_lem, next_by, onward_keeps, silent_by, reached, played_by}

module _ (window : List ℕ) (base : ℕ) where
  -- ---- samples

  sounded_long : (m : Midst) → length (sounded window base m).samples ≡ length m.samples + 1
  unfolding sounded
  sounded_long m = length-append m.samples (sound_of window base m.lane (track_of m.voice) (cursor_of m.voice) ∷ [])

  next_long : (m : Midst) → length (next window base m).samples ≤ length m.samples + 1
  unfolding begun_next
  next_long m =
      next_by window base (λ x. length x.samples ≤ length m.samples + 1) m (omega (arith, sounded_long m))
      (λ f. omega (arith, sounded_long (begun_next window base m))) (omega arith)

  onward_long : (m : Midst) (n : ℕ) → length (onward window base n m).samples ≤ length m.samples + n
  unfolding onward
  onward_long m zero = omega arith
  onward_long m (suc n) = omega (arith, next_long (onward window base n m), onward_long m n)

  pub produced_most : (v : Voice) (lane : List ℤ) → length (reached window base v lane).samples ≤ 160
  produced_most v lane = omega (arith, onward_long (started v lane) FRAME_SAMPLES)

  -- ---- dequeues

  -- each gives a sample
  each_sounds : (v : Voice) (lane : List ℤ) → (reached window base v lane).dequeues ≤ length (reached window base v lane).samples
  unfolding sounded begun_next
  each_sounds v lane =
      onward_keeps window base (λ m. m.dequeues ≤ length m.samples) (λ m h. omega (arith, sounded_long m))
      (λ m h f. omega (arith, sounded_long (begun_next window base m))) (started v lane) (omega arith) FRAME_SAMPLES

  -- with none, nothing of theirs has changed
  abbrev Idle : Voice → List ℤ → Midst → Type 0
  Idle v lane m = m.dequeues ≡ 0 → entries_of m.voice m.lane ≡ entries_of v lane

  pub onward_idle : (v : Voice) (lane : List ℤ) (n : ℕ) → Idle v lane (onward window base n (started v lane))
  unfolding sounded begun_next opened
  onward_idle v lane n =
      onward_keeps window base (Idle v lane) (λ m p. p) (λ m p f z. absurd (omega arith)) (started v lane) (λ z. refl) n

pub at_most_160 : AtMost160
at_most_160 window base v lane =
    played_by window base (λ f. f.dequeues ≤ 160) v lane
    (λ s. silent_by window base (λ f. f.dequeues ≤ 160) (opened v) lane (λ f. omega arith) (λ f. omega arith))
    (λ s. omega (arith, each_sounds window base v lane, produced_most window base v lane))

-- ---- from a queue in which nothing loops

abbrev loops : Entry → Bool
loops e = e.looping

-- nothing queued loops, and there are places for what is queued
record Quiet (v : Voice) : Type 0 where
  room : v.queued ≤ length v.queue
  none : some loops (queued_in v) ≡ false

quiet_at : (v : Voice) → Quiet v → (k : ℕ) → k < v.queued → loops (get_or v.queue k blank_entry) ≡ false
quiet_at v q k h =
    let inside : k < length (queued_in v) = simp length-take (omega (arith, q.room)) in
    ap loops (sym (get_or-take v.queued v.queue k blank_entry h)) ∙ none_each loops (queued_in v) blank_entry q.none k inside

at_quiet : (v : Voice) → ((k : ℕ) → k < v.queued → loops (get_or v.queue k blank_entry) ≡ false) → some loops (queued_in v) ≡ false
at_quiet v f =
    each_none loops (queued_in v) blank_entry (λ k h.
    let inside : k < v.queued = omega (arith, rw length-take at h) in
    ap loops (get_or-take v.queued v.queue k blank_entry inside) ∙ f k inside)

-- an entry less than so many
record Fewer (n : ℕ) (v : Voice) : Type 0 where
  quiet : Quiet v
  count : v.queued + 1 ≡ n

removed_fewer : (v : Voice) → Quiet v → (place : ℕ) → place < v.queued → Fewer v.queued (removed place v)
unfolding removed
removed_fewer v q place h =
    let inside : place < length v.queue = omega (arith, q.room) in
    record {
      quiet =
          record {
            room = omega (arith, without_length v.queue place inside, q.room);
            none =
                at_quiet (removed place v) (λ k l.
                ⊎_elim (λ b. ap loops (without_before v.queue place inside k blank_entry b) ∙ quiet_at v q k (omega arith))
                (λ g. ap loops (without_next v.queue place inside k blank_entry g (omega (arith, q.room)))
                ∙ quiet_at v q (k + 1) (omega arith))
                (below_or k place));
          };
      count = omega arith;
    }

taken_fewer : (v : Voice) → Quiet v → (place : ℕ) → place < v.queued → Fewer v.queued (taken place v)
taken_fewer v q place h =
    taken_either (Fewer v.queued) place v (λ l. absurd (clash (sym l ∙ quiet_at v q place h))) (λ l. removed_fewer v q place h)

module _ (window : List ℕ) (base : ℕ) where
  dequeued_fewer : (v : Voice) → Quiet v → (dequeued window base v).found ≡ true → Fewer v.queued (dequeued window base v).voice
  unfolding begun_at
  dequeued_fewer v q =
      dequeued_by_lem window base (Fewer v.queued) v (λ place e.
      let t = taken_fewer v q place (found_queued v.queue v.queued place e) in
      prepared_any window base (Fewer v.queued) (entry_at place v) (taken place v)
      (λ n h. record { quiet = record { room = t.quiet.room; none = t.quiet.none }; count = t.count }))

  -- so many were queued before the dequeues
  record Counting (n dequeues : ℕ) (v : Voice) : Type 0 where
    quiet : Quiet v
    count : v.queued + dequeues ≡ n

  onward_counting : (v : Voice) (lane : List ℤ) → Quiet v
      → Counting v.queued (reached window base v lane).dequeues (reached window base v lane).voice
  unfolding sounded begun_next opened
  onward_counting v lane q =
      onward_keeps window base (λ (m : Midst). Counting v.queued m.dequeues m.voice)
      (λ m p. record { quiet = record { room = p.quiet.room; none = p.quiet.none }; count = p.count })
      (λ m p f.
      let d = dequeued_fewer m.voice p.quiet f in
      record { quiet = record { room = d.quiet.room; none = d.quiet.none }; count = omega (arith, d.count, p.count) })
      (started v lane) (record { quiet = record { room = q.room; none = q.none }; count = omega arith }) FRAME_SAMPLES

pub dequeues_counted : DequeuesCounted
unfolding ended switched_off opened
dequeues_counted window base v lane = record {
  none =
      played_by window base (λ f. f.dequeues ≡ 0 → entries_of f.voice f.lane ≡ entries_of v lane) v lane
      (λ s. silent_by window base (λ f. f.dequeues ≡ 0 → entries_of f.voice f.lane ≡ entries_of v lane) (opened v) lane
      (λ f z. absurd (omega arith)) (λ f z. refl))
      (λ s. onward_idle window base v lane FRAME_SAMPLES);
  each = λ r n.
      played_by window base (λ f. f.voice.queued + f.dequeues ≡ v.queued) v lane
      (λ s. silent_by window base (λ f. f.voice.queued + f.dequeues ≡ v.queued) (opened v) lane
      (λ f. (dequeued_fewer window base (opened v) (record { room = r; none = n }) f).count) (λ f. omega arith))
      (λ s. (onward_counting window base v lane (record { room = r; none = n })).count);
}
