-- A dequeue keeps a record well-formed, its queue's places, and the lane as long as it was, by its steps one after the other. Assumes
-- nothing.
use mathlib.Core.Path.{◌≡◌, refl, ap, ◌∙◌}
use mathlib.Core.Bool.{Bool, true, false, cond}
use mathlib.Core.List.{List}
use mathlib.Core.Logic.{⊎_elim}
use Prim.Native.Nat.{ℕ, ◌+◌, ◌≤◌, ◌<◌}
use native.Mathlib.Decide.{ℕ_discrete}
use native.Mathlib.Omega.{arith}
use lib.IntN.{ℤ}
use lib.ListN.{length, get_or, set, drop, length-append, length-drop, length-set}
use lib.Seq.{get_or-set_same, get_or-set_other}
use Rattle.lists.proofs.Bools.{cond_either}
use Rattle.lists.proofs.Walk.{below_or}
use Rattle.adpcm.proofs.Codes.{decoded_long}
use Rattle.adpcm.specs.Adpcm.{sample_of}
use Rattle.adpcm.specs.Code.{decoded_samples}
use Rattle.voice.specs.Blank.{limit, places, blank_entry}
use Rattle.voice.specs.Long.{too_long, any_too_long}
use Rattle.voice.specs.Malformed.{queued_in, WellFormed}
use Rattle.voice.specs.declared.record.Entry.{Entry}
use Rattle.voice.specs.declared.record.Voice.{Voice}
use Rattle.voice.proofs.Formed.{entries_at, at_entries}
use Rattle.queue.specs.Played.{mark_played}
use Rattle.queue.specs.Removal.{removed}
use Rattle.queue.specs.Search.{searched}
use Rattle.std.proofs.Common.{Option, None, Some}
use Rattle.queue.proofs.Least.{found_queued}
use Rattle.queue.proofs.Removal.{without_length, without_before, without_next}
use Rattle.numbers.specs.Literals.{+0}
use Rattle.numbers.specs.Tests.{is_rate, is_fraction}
use Rattle.numbers.proofs.Literals.{zero_fraction}
use Rattle.filters.specs.Range.{filters_in_range}
use Rattle.adpcm.specs.declared.History.{History}
use Rattle.voice.specs.Set.{set_voice_history, set_voice_queue, set_voice_decoded}
use Rattle.dequeue.specs.Dequeue.{entry_at, taken, with_history, begun_at, begun, start_of, decodable, adpcm_in}
use Rattle.dequeue.specs.Dequeue.{decoded_voice, decoded_lane}
use Rattle.dequeue.specs.Dequeue.{prepared_voice, prepared_lane, dequeued_by, lane_by, dequeued, dequeued_lane}
use Rattle.dequeue.proofs.Laws.{decodable_fits, decodable_whole}

-- ---- the entry leaves, or is marked

-- a mark makes an entry no longer
mark_long : (L : ℕ) (e : Entry) → too_long L (mark_played e) ≡ too_long L e
unfolding too_long
mark_long L e = refl

module _ (L : ℕ) (v : Voice) (w : WellFormed L v) (long : length v.queue ≡ places) (place : ℕ) (here : place < v.queued) where
  marked_entries : (k : ℕ) → k < v.queued → too_long L (get_or (set v.queue place (mark_played (entry_at place v))) k blank_entry) ≡ false
  marked_entries k h =
      let inside : place < length v.queue = omega (arith, w.queued) in
      elim (ℕ_discrete k place) [
        | yes e ↦ ap (λ (j : ℕ). too_long L (get_or (set v.queue place (mark_played (entry_at place v))) j blank_entry)) e
            ∙ ap (too_long L) (get_or-set_same v.queue place (mark_played (entry_at place v)) blank_entry inside)
            ∙ mark_long L (entry_at place v)
            ∙ entries_at L v w.entries place here
        | no e ↦ ap (too_long L) (get_or-set_other v.queue place k (mark_played (entry_at place v)) blank_entry e)
            ∙ entries_at L v w.entries k h
      ]

  removed_entries : (k : ℕ) → k < (removed place v).queued → too_long L (get_or (removed place v).queue k blank_entry) ≡ false
  unfolding removed
  removed_entries k h =
      let inside : place < length v.queue = omega (arith, w.queued) in
      ⊎_elim
      (λ l. ap (too_long L) (without_before v.queue place inside k blank_entry l) ∙ entries_at L v w.entries k (omega arith))
      (λ g. ap (too_long L) (without_next v.queue place inside k blank_entry g (omega (arith, w.queued)))
      ∙ entries_at L v w.entries (k + 1) (omega arith))
      (below_or k place)

  -- what of a record the test of number 7 asks
  record Leaves (u : Voice) : Type 0 where
    queued : u.queued ≤ limit
    entries : any_too_long L (queued_in u) ≡ false
    places_kept : length u.queue ≡ places
    filters : u.filters ≡ v.filters
    rate : u.rate ≡ v.rate

  leaves : Leaves (taken place v)
  unfolding taken removed
  leaves =
      cond_either Leaves (entry_at place v).looping _ _
      (record {
        queued = w.queued;
        entries = at_entries L (set_voice_queue (set v.queue place (mark_played (entry_at place v))) v) marked_entries;
        places_kept = length-set v.queue place (mark_played (entry_at place v)) ∙ long;
        filters = refl;
        rate = refl;
      })
      (record {
        queued = omega (arith, w.queued);
        entries = at_entries L (removed place v) removed_entries;
        places_kept = without_length v.queue place (omega (arith, w.queued, long)) ∙ long;
        filters = refl;
        rate = refl;
      })

  -- ---- an entry that begins

  -- well-formed, whatever is decoded
  record Begins (u : Voice) : Type 0 where
    leaves : Leaves u
    remaining : u.remaining ≤ u.length
    fraction : u.fraction ≡ +0

  begins : Begins (begun (entry_at place v) (taken place v))
  unfolding begun with_history begun_at
  begins =
      let start = start_of (entry_at place v) in
      let same : Begins (begun_at start (entry_at place v) (taken place v)) = record {
        leaves =
            record {
              queued = leaves.queued;
              entries = leaves.entries;
              places_kept = leaves.places_kept;
              filters = leaves.filters;
              rate = leaves.rate;
            };
        remaining = omega arith;
        fraction = refl;
      } in
      let brought : Begins (set_voice_history (entry_at place v).adpcm (begun_at start (entry_at place v) (taken place v))) = record {
        leaves =
            record {
              queued = leaves.queued;
              entries = leaves.entries;
              places_kept = leaves.places_kept;
              filters = leaves.filters;
              rate = leaves.rate;
            };
        remaining = omega arith;
        fraction = refl;
      } in
      cond_either Begins (entry_at place v).has_adpcm
      (set_voice_history (entry_at place v).adpcm (begun_at start (entry_at place v) (taken place v)))
      (begun_at start (entry_at place v) (taken place v)) brought same

  -- so many samples of it are decoded: none, or as many as fit the lane
  formed_at : (u : Voice) → Begins u → (n : ℕ) → n ≤ L → (h : History) → WellFormed L (set_voice_decoded n (set_voice_history h u))
  formed_at u b n fits h = record {
    queued = b.leaves.queued;
    remaining = b.remaining;
    decoded = fits;
    entries = b.leaves.entries;
    rate = ap is_rate b.leaves.rate ∙ w.rate;
    fraction = ap is_fraction b.fraction ∙ zero_fraction;
    filters = ap filters_in_range b.leaves.filters ∙ w.filters;
  }

  module _ (window : List ℕ) (base : ℕ) where
    -- the entry fits the lane where it is decoded
    fits : decodable window base (entry_at place v) ≡ true → (entry_at place v).length ≤ L
    fits = decodable_fits window base (entry_at place v) L (entries_at L v w.entries place here)

    prepared_formed : WellFormed L (prepared_voice window base (entry_at place v) (begun (entry_at place v) (taken place v)))
    unfolding prepared_voice decoded_voice
    prepared_formed = by (decodable window base (entry_at place v)) refl
      where
        u : Voice
        u = begun (entry_at place v) (taken place v)

        by : (b : Bool) → decodable window base (entry_at place v) ≡ b
            → WellFormed L (cond b (decoded_voice (adpcm_in window base (entry_at place v)) (entry_at place v).length u)
            (set_voice_decoded 0 u))
        by true d = formed_at u begins (entry_at place v).length (fits d) _
        by false d = formed_at u begins 0 (omega arith) u.history

    prepared_places : length (prepared_voice window base (entry_at place v) (begun (entry_at place v) (taken place v))).queue ≡ places
    unfolding prepared_voice decoded_voice
    prepared_places =
        cond_either (λ (u : Voice). length u.queue ≡ places) (decodable window base (entry_at place v)) _ _ begins.leaves.places_kept
        begins.leaves.places_kept

    prepared_lane_lem : (lane : List ℤ) → length lane ≡ L
        → length (prepared_lane window base (entry_at place v) (begun (entry_at place v) (taken place v)) lane) ≡ length lane
    unfolding prepared_lane decoded_lane
    prepared_lane_lem lane l = by (decodable window base (entry_at place v)) refl
      where
        u : Voice
        u = begun (entry_at place v) (taken place v)

        n : ℕ
        n = (entry_at place v).length

        by : (b : Bool) → decodable window base (entry_at place v) ≡ b
            → length (cond b (decoded_lane (adpcm_in window base (entry_at place v)) n u lane) lane) ≡ length lane
        by true d =
            let made = decoded_long sample_of u.coefficients u.history (adpcm_in window base (entry_at place v)) n
            (decodable_whole window base (entry_at place v) d) in
            let fit = fits d in
            let samples = decoded_samples sample_of u.coefficients u.history (adpcm_in window base (entry_at place v)) n in
            let all = length-append samples (drop n lane) in
            let left = length-drop n lane in
            omega arith
        by false d = refl

-- ---- a dequeue

module _ (window : List ℕ) (base L : ℕ) (v : Voice) (w : WellFormed L v) (long : length v.queue ≡ places) where
  pub dequeued_formed : WellFormed L (dequeued window base v).voice
  unfolding dequeued
  dequeued_formed = by (searched v.queue v.queued) refl
    where
      by : (f : Option ℕ) → f ≡ searched v.queue v.queued → WellFormed L (dequeued_by window base f v).voice
      by None e = w
      by (Some place) e = prepared_formed L v w long place (found_queued v.queue v.queued place e) window base

  pub dequeued_places : length (dequeued window base v).voice.queue ≡ places
  unfolding dequeued
  dequeued_places = by (searched v.queue v.queued) refl
    where
      by : (f : Option ℕ) → f ≡ searched v.queue v.queued → length (dequeued_by window base f v).voice.queue ≡ places
      by None e = long
      by (Some place) e = prepared_places L v w long place (found_queued v.queue v.queued place e) window base

  pub dequeued_lane_long : (lane : List ℤ) → length lane ≡ L → length (dequeued_lane window base v lane) ≡ length lane
  unfolding dequeued_lane
  dequeued_lane_long lane l = by (searched v.queue v.queued) refl
    where
      by : (f : Option ℕ) → f ≡ searched v.queue v.queued → length (lane_by window base f v lane) ≡ length lane
      by None e = refl
      by (Some place) e = prepared_lane_lem L v w long place (found_queued v.queue v.queued place e) window base lane l
