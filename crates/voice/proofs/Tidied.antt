-- The laws of tidying: how long a tidied queue and tidied ramps are and what stands at a place of them; a tidied voice is blank where it
-- must be, and a voice that is so is left alone. Assumes nothing.
use Prim.Native.Nat.{ℕ, zero, suc, ◌-◌, ◌/◌, ◌<◌, ◌≤◌}
use mathlib.Core.Bool.{Bool, true, false, cond}
use mathlib.Core.List.{List, ◌++◌}
use mathlib.Core.Logic.{◌⊎◌, inl, inr}
use mathlib.Core.Path.{◌≡◌, refl, sym, ap, ◌∙◌, subst}
use lib.Dec.{ltb}
use lib.Ieee.{Float}
use lib.ListN.{length, get_or, replicate, take, get_or-eq_default, get_or-append, length-append, length-replicate}
use lib.Seq.{ext_get_or, get_or-take, length-take-le}
use Rattle.std.proofs.Common.{map, min}
use Rattle.std.proofs.lemmas.List.{length-map, get_or-map, get_or-append_right, get_or-replicate}
use native.Mathlib.Omega.{arith}
use borrow.Author.Tests.{lt-ltb, le-ltb, ltb-true, ltb-false}
use Rattle.lists.proofs.Bools.{cond_yes, cond_no}
use Rattle.lists.proofs.Tabulate.{length_tabulate, get_d_tabulate}
use Rattle.lists.proofs.Walk.{below_or}
use Rattle.adpcm.specs.declared.History.{History}
use Rattle.filters.specs.Defaults.{default_simple, default_biquad}
use Rattle.voice.specs.declared.record.Entry.{Entry}
use Rattle.voice.specs.declared.record.Voice.{Voice}
use Rattle.voice.specs.Blank.{places, blank_history, blank_entry, blank_gain, default_voice}
use Rattle.voice.specs.Set.{set_entry_adpcm, set_voice_queue, set_voice_ramp, set_voice_filters, set_voice_playing}
use Rattle.voice.specs.Tidy.{tidy_entry, tidy_under, tidy_queue, tidy_gain, tidy_ramp, tidy_filters, tidied, BlankEntry, Blank}

-- ---- lengths and places

pub length_queue : (n : ℕ) (queue : List Entry) → length (tidy_queue n queue) ≡ places
unfolding tidy_queue
length_queue n queue = length_tabulate (λ i. tidy_under (ltb i n) (get_or queue i blank_entry)) places

pub queue_at :
    (n : ℕ) (queue : List Entry) (i : ℕ) (d : Entry) → i < places
    → get_or (tidy_queue n queue) i d ≡ tidy_under (ltb i n) (get_or queue i blank_entry)
unfolding tidy_queue
queue_at n queue i d h = get_d_tabulate (λ k. tidy_under (ltb k n) (get_or queue k blank_entry)) places i d h

pub length_ramp : (marks : List Bool) (ramp : List Float) → length (tidy_ramp marks ramp) ≡ 12
unfolding tidy_ramp
length_ramp marks ramp = length_tabulate (λ k. tidy_gain (get_or marks (k / 4) false) (get_or ramp k blank_gain)) 12

pub ramp_at : (marks : List Bool) (ramp : List Float) (k : ℕ) (d : Float) → k < 12
    → get_or (tidy_ramp marks ramp) k d ≡ tidy_gain (get_or marks (k / 4) false) (get_or ramp k blank_gain)
unfolding tidy_ramp
ramp_at marks ramp k d h = get_d_tabulate (λ i. tidy_gain (get_or marks (i / 4) false) (get_or ramp i blank_gain)) 12 k d h

pub under_on : (on : Bool) (e : Entry) → on ≡ true → tidy_under on e ≡ tidy_entry e
unfolding tidy_under
under_on on e h = cond_yes (tidy_entry e) blank_entry h

pub under_off : (on : Bool) (e : Entry) → on ≡ false → tidy_under on e ≡ blank_entry
unfolding tidy_under
under_off on e h = cond_no (tidy_entry e) blank_entry h

-- a queued entry, tidied
pub queued_at :
    (n : ℕ) (queue : List Entry) (k : ℕ) → k < n → n ≤ places
    → get_or (tidy_queue n queue) k blank_entry ≡ tidy_entry (get_or queue k blank_entry)
queued_at n queue k h l =
    queue_at n queue k blank_entry (omega arith) ∙ under_on (ltb k n) (get_or queue k blank_entry) (lt-ltb k n h)

-- past the count, also past the queue's end
past_at : (n : ℕ) (queue : List Entry) (k : ℕ) → n ≤ k → get_or (tidy_queue n queue) k blank_entry ≡ blank_entry
past_at n queue k h = by (below_or k places)
  where
    by : (k < places) ⊎ (places ≤ k) → get_or (tidy_queue n queue) k blank_entry ≡ blank_entry
    by (inl l) = queue_at n queue k blank_entry l ∙ under_off (ltb k n) (get_or queue k blank_entry) (le-ltb k n h)
    by (inr g) = get_or-eq_default (tidy_queue n queue) blank_entry {n = k} (omega (arith, length_queue n queue))

-- the queued entries, each tidied, and then blank ones
pub queue_parts :
    (n m : ℕ) (queue : List Entry) → length queue ≡ places → m ≡ min n places
    → map tidy_entry (take m queue) ++ replicate (places - m) blank_entry ≡ tidy_queue n queue
queue_parts n m queue l e =
    ext_get_or blank_entry (kept ++ free) (tidy_queue n queue) (long ∙ sym (length_queue n queue))
    (λ k h. let lt : k < places = omega (arith, long) in by k lt (below_or k m))
  where
    kept : List Entry
    kept = map tidy_entry (take m queue)

    free : List Entry
    free = replicate (places - m) blank_entry

    first : length (take m queue) ≡ m
    first = length-take-le m queue (omega arith)

    kept_long : length kept ≡ m
    kept_long = length-map (take m queue) tidy_entry ∙ first

    free_long : length free ≡ places - m
    free_long = length-replicate (places - m) blank_entry

    long : length (kept ++ free) ≡ places
    long = length-append kept free ∙ omega (arith, kept_long, free_long)

    by : (k : ℕ) → k < places → (k < m) ⊎ (m ≤ k) → get_or (kept ++ free) k blank_entry ≡ get_or (tidy_queue n queue) k blank_entry
    by k h (inl b) =
        get_or-append kept free blank_entry k (omega (arith, kept_long))
        ∙ get_or-map tidy_entry (take m queue) k blank_entry blank_entry (omega (arith, first))
        ∙ ap tidy_entry (get_or-take m queue k blank_entry b)
        ∙ sym (under_on (ltb k n) (get_or queue k blank_entry) (lt-ltb k n (omega arith)))
        ∙ sym (queue_at n queue k blank_entry h)
    by k h (inr b) =
        get_or-append_right kept free m k blank_entry kept_long b
        ∙ get_or-replicate (places - m) (k - m) blank_entry blank_entry (omega arith)
        ∙ sym (past_at n queue k (omega arith))

-- ---- a tidied voice is blank where it must be

pub blank_is_blank : BlankEntry blank_entry
unfolding blank_entry
blank_is_blank = record { history = λ _. refl }

entry_blank : (e : Entry) → BlankEntry (tidy_entry e)
unfolding tidy_entry
entry_blank e = by e.has_adpcm refl
  where
    by : (on : Bool) → e.has_adpcm ≡ on → BlankEntry (cond on e (set_entry_adpcm blank_history e))
    by true p = record { history = λ q. cc }
    by false p = record { history = λ q. refl }

under_blank : (on : Bool) (e : Entry) → BlankEntry (tidy_under on e)
unfolding tidy_under
under_blank true e = entry_blank e
under_blank false e = blank_is_blank

entries_blank : (n : ℕ) (queue : List Entry) (k : ℕ) → BlankEntry (get_or (tidy_queue n queue) k blank_entry)
entries_blank n queue k = by (below_or k places)
  where
    by : (k < places) ⊎ (places ≤ k) → BlankEntry (get_or (tidy_queue n queue) k blank_entry)
    by (inl l) =
        subst (λ (e : Entry). BlankEntry e) (sym (queue_at n queue k blank_entry l)) (under_blank (ltb k n) (get_or queue k blank_entry))
    by (inr g) =
        subst (λ (e : Entry). BlankEntry e)
        (sym (get_or-eq_default (tidy_queue n queue) blank_entry {n = k} (omega (arith, length_queue n queue)))) blank_is_blank

ramp_blank :
    (marks : List Bool) (ramp : List Float) (k : ℕ) → get_or marks (k / 4) false ≡ false
    → get_or (tidy_ramp marks ramp) k blank_gain ≡ blank_gain
ramp_blank marks ramp k off = by (below_or k 12)
  where
    by : (k < 12) ⊎ (12 ≤ k) → get_or (tidy_ramp marks ramp) k blank_gain ≡ blank_gain
    by (inl l) = ramp_at marks ramp k blank_gain l ∙ cond_no (get_or ramp k blank_gain) blank_gain off
    by (inr g) = get_or-eq_default (tidy_ramp marks ramp) blank_gain {n = k} (omega (arith, length_ramp marks ramp))

pub tidied_blank : (v : Voice) → Blank (tidied v)
unfolding tidied tidy_filters
tidied_blank v = record {
  entries = λ k h. entries_blank v.queued v.queue k;
  places = λ k h. past_at v.queued v.queue k h;
  ramp = λ k off. ramp_blank v.has_ramp v.ramp k off;
  simple = λ off. cond_no v.filters.simple default_simple off;
  biquad = λ off. cond_no v.filters.biquad default_biquad off;
  silent = λ off. under_off v.has_playing v.playing off;
  playing = λ on. under_blank v.has_playing v.playing;
}

-- ---- a voice that is blank where it must be is left alone

entry_kept : (e : Entry) → BlankEntry e → tidy_entry e ≡ e
unfolding tidy_entry
entry_kept e b = by e.has_adpcm refl
  where
    by : (on : Bool) → e.has_adpcm ≡ on → cond on e (set_entry_adpcm blank_history e) ≡ e
    by true p = refl
    by false p = ap (λ (h : History). set_entry_adpcm h e) (sym (b.history p))

under_kept : (on : Bool) (e : Entry) → (on ≡ false → e ≡ blank_entry) → (on ≡ true → BlankEntry e) → tidy_under on e ≡ e
under_kept true e off on = under_on true e refl ∙ entry_kept e (on refl)
under_kept false e off on = under_off false e refl ∙ sym (off refl)

cond_kept : {A : Type 0} (on : Bool) (x blank : A) → (on ≡ false → x ≡ blank) → cond on x blank ≡ x
cond_kept true x blank off = refl
cond_kept false x blank off = sym (off refl)

module _ (v : Voice) (b : Blank v) where
  queue_kept : length v.queue ≡ places → tidy_queue v.queued v.queue ≡ v.queue
  queue_kept l =
      let n = v.queued in
      let q = v.queue in
      ext_get_or blank_entry (tidy_queue n q) q (length_queue n q ∙ sym l)
      (λ k h.
      queue_at n q k blank_entry (omega (arith, length_queue n q))
      ∙ under_kept (ltb k n) (get_or q k blank_entry) (λ off. b.places k (ltb-false k n off)) (λ on. b.entries k (ltb-true k n on)))

  ramp_kept : length v.ramp ≡ 12 → tidy_ramp v.has_ramp v.ramp ≡ v.ramp
  ramp_kept l =
      let m = v.has_ramp in
      let r = v.ramp in
      ext_get_or blank_gain (tidy_ramp m r) r (length_ramp m r ∙ sym l)
      (λ k h.
      ramp_at m r k blank_gain (omega (arith, length_ramp m r))
      ∙ cond_kept (get_or m (k / 4) false) (get_or r k blank_gain) blank_gain (b.ramp k))

  filters_kept : tidy_filters v.filters ≡ v.filters
  unfolding tidy_filters
  filters_kept =
      λ j. record {
        has_simple = v.filters.has_simple;
        simple = cond_kept v.filters.has_simple v.filters.simple default_simple b.simple j;
        has_biquad = v.filters.has_biquad;
        biquad = cond_kept v.filters.has_biquad v.filters.biquad default_biquad b.biquad j;
      }

  pub blank_kept : length v.queue ≡ places → length v.ramp ≡ 12 → tidied v ≡ v
  unfolding tidied
  blank_kept lq lr =
      λ j. set_voice_playing (under_kept v.has_playing v.playing b.silent b.playing j)
      (set_voice_filters (filters_kept j) (set_voice_ramp (ramp_kept lr j) (set_voice_queue (queue_kept lq j) v)))

pub tidied_twice : (v : Voice) → tidied (tidied v) ≡ tidied v
unfolding tidied
tidied_twice v = blank_kept (tidied v) (tidied_blank v) (length_queue v.queued v.queue) (length_ramp v.has_ramp v.ramp)

all_same : {A : Type 0} (a : A) (n k : ℕ) → get_or (replicate n a) k a ≡ a
all_same a zero k = refl
all_same a (suc n) zero = refl
all_same a (suc n) (suc k) = all_same a n k

pub default_blank : Blank default_voice
unfolding default_voice
default_blank = record {
  entries = λ k h. let bad : ⊥ = omega arith in absurd bad;
  places = λ k h. all_same blank_entry places k;
  ramp = λ k off. all_same blank_gain 12 k;
  simple = λ off. refl;
  biquad = λ off. refl;
  silent = λ off. refl;
  playing = λ on. blank_is_blank;
}
