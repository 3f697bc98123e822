-- A record as a served frame leaves it is well-formed, with its arrays and with numbers of their types, where the record before was: each
-- field holds what it held or its blank, which is such. Assumes nothing.
use mathlib.Core.Path.{◌≡◌, refl}
use mathlib.Core.Bool.{Bool, true, false}
use mathlib.Core.List.{List}
use Prim.Native.Nat.{ℕ, ◌/◌}
use lib.Dec.{ltb}
use lib.Ieee.{Float, fits, binary32}
use lib.ListN.{length, get_or, replicate}
use Rattle.lists.specs.Some.{every}
use Rattle.lists.proofs.Bools.{cond_either}
use Rattle.lists.proofs.Some.{every_at, every_set, every_tabulate}
use Rattle.filters.specs.Defaults.{default_simple, default_biquad}
use Rattle.filters.specs.declared.state.BiquadFilter.{BiquadFilter}
use Rattle.filters.specs.declared.state.SimpleFilter.{SimpleFilter}
use Rattle.voice.specs.Blank.{places, blank_history, blank_entry, blank_gain}
use Rattle.voice.specs.Malformed.{malformed, WellFormed}
use Rattle.voice.specs.Range.{history_in_range, entry_tests, entry_in_range, simple_in32, biquad_in32, InRange, Sized}
use Rattle.voice.specs.Set.{set_entry_adpcm, set_voice_has_ramp, set_voice_buffer_update}
use Rattle.voice.specs.Tidy.{tidy_entry, tidy_under, tidy_queue, tidy_gain, tidy_ramp, tidy_filters, tidied}
use Rattle.voice.specs.declared.record.Entry.{Entry}
use Rattle.voice.specs.declared.record.Voice.{Voice}
use Rattle.voice.proofs.Formed.{not_malformed_formed, formed_not_malformed, tidied_formed}
use Rattle.voice.proofs.Range.{blank_in_range, history_in_range_lem, simple_in_32, biquad_in_32, zero_single}
use Rattle.voice.proofs.Tidied.{length_queue, length_ramp}
use Rattle.voice_frame.specs.VoiceFrame.{left}

-- ---- entries and ramps

abbrev EntryIn : Entry → Type 0
EntryIn e = entry_in_range e ≡ true

entry_in : (e : Entry) → EntryIn e → EntryIn (tidy_entry e)
unfolding tidy_entry entry_in_range
entry_in e t =
    cond_either EntryIn e.has_adpcm e (set_entry_adpcm blank_history e) t
    (every_set (λ b. b) (entry_tests e) 3 (history_in_range blank_history) t history_in_range_lem)

under_in : (on : Bool) (e : Entry) → EntryIn e → EntryIn (tidy_under on e)
unfolding tidy_under
under_in on e t = cond_either EntryIn on (tidy_entry e) blank_entry (entry_in e t) blank_in_range

queue_in : (n : ℕ) (queue : List Entry) → every entry_in_range queue ≡ true → every entry_in_range (tidy_queue n queue) ≡ true
unfolding tidy_queue
queue_in n queue t =
    every_tabulate entry_in_range (λ i. tidy_under (ltb i n) (get_or queue i blank_entry)) places
    (λ i. under_in (ltb i n) (get_or queue i blank_entry) (every_at entry_in_range queue i blank_entry t blank_in_range))

ramp_in : (marks : List Bool) (ramp : List Float) → every (fits binary32) ramp ≡ true → every (fits binary32) (tidy_ramp marks ramp) ≡ true
unfolding tidy_ramp
ramp_in marks ramp t =
    every_tabulate (fits binary32) (λ k. tidy_gain (get_or marks (k / 4) false) (get_or ramp k blank_gain)) 12
    (λ k. cond_either (λ (x : Float). fits binary32 x ≡ true) (get_or marks (k / 4) false) (get_or ramp k blank_gain) blank_gain
    (every_at (fits binary32) ramp k blank_gain t zero_single) zero_single)

-- ---- a record

-- without the marks that a frame drops
abbrev pub unmarked : Voice → Voice
unmarked v = set_voice_buffer_update false (set_voice_has_ramp (replicate 3 false) v)

module _ (v : Voice) where
  pub left_formed : (L : ℕ) → WellFormed L v → WellFormed L (left v)
  unfolding left malformed
  left_formed L w = tidied_formed L (unmarked v) (not_malformed_formed L (unmarked v) (formed_not_malformed L v w))

  pub left_sized : Sized v → Sized (left v)
  unfolding left tidied tidy_filters
  left_sized s =
      let simple = v.filters.has_simple in
      let biquad = v.filters.has_biquad in
      record {
        gain = s.gain;
        marks = refl;
        ramp = length_ramp (replicate 3 false) v.ramp;
        coefficients = s.coefficients;
        queue = length_queue v.queued v.queue;
        frame = s.frame;
        y1 = cond_either (λ (f : SimpleFilter). length f.y1 ≡ 2) simple v.filters.simple default_simple s.y1 refl;
        b = cond_either (λ (f : BiquadFilter). length f.b ≡ 3) biquad v.filters.biquad default_biquad s.b refl;
        a = cond_either (λ (f : BiquadFilter). length f.a ≡ 2) biquad v.filters.biquad default_biquad s.a refl;
        x = cond_either (λ (f : BiquadFilter). length f.x ≡ 4) biquad v.filters.biquad default_biquad s.x refl;
        y = cond_either (λ (f : BiquadFilter). length f.y ≡ 4) biquad v.filters.biquad default_biquad s.y refl;
      }

  pub left_range : InRange v → InRange (left v)
  unfolding left tidied tidy_filters
  left_range r = record {
    sync_count = r.sync_count;
    rate = r.rate;
    simple =
        cond_either (λ (f : SimpleFilter). simple_in32 f ≡ true) v.filters.has_simple v.filters.simple default_simple r.simple
        simple_in_32;
    biquad =
        cond_either (λ (f : BiquadFilter). biquad_in32 f ≡ true) v.filters.has_biquad v.filters.biquad default_biquad r.biquad
        biquad_in_32;
    gain = r.gain;
    ramp = ramp_in (replicate 3 false) v.ramp r.ramp;
    coefficients = r.coefficients;
    history = r.history;
    queue = queue_in v.queued v.queue r.queue;
    queued = r.queued;
    playing = under_in v.has_playing v.playing r.playing;
    decoded = r.decoded;
    remaining = r.remaining;
    length = r.length;
    fraction = r.fraction;
    current_buffer_id = r.current_buffer_id;
    last_buffer_id = r.last_buffer_id;
    position = r.position;
    frame = r.frame;
  }
