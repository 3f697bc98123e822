-- When a configuration is refused: the number is the refusal's, 20 and 21 exactly if their sentences hold; refused, all stays; and a zero
-- dirty word leaves all as it is. By the tests one after the other. Assumes nothing.
use mathlib.Core.Path.{◌≡◌, refl, sym, ap, ◌∙◌}
use mathlib.Core.Bool.{Bool, true, false, ◌||◌, cond}
use mathlib.Core.List.{List, [], ◌++◌}
use Prim.Native.Nat.{ℕ, ◌+◌, ◌*◌, ◌^◌, ◌%◌, ◌<◌, ◌≤◌}
use native.Mathlib.Nat.{zero-div}
use native.Mathlib.Omega.{arith}
use lib.Dec.{eqb, ltb}
use lib.ListN.{length}
use Rattle.std.proofs.lemmas.Bool.{false≢true}
use borrow.Author.Tests.{ltb-true, ltb-false, le-ltb, eqb-true}
use Rattle.lists.proofs.Bools.{or_no, cond_yes, cond_no}
use Rattle.lists.proofs.Some.{some_one, one_some}
use Rattle.fields.specs.Flags.{flagged}
use Rattle.filters.specs.declared.state.Filters.{Filters}
use Rattle.voice.specs.Blank.{limit}
use Rattle.voice.specs.Long.{too_long, any_too_long}
use Rattle.voice.specs.Set.{set_voice_filters}
use Rattle.voice.specs.declared.record.Entry.{Entry}
use Rattle.voice.specs.declared.record.Voice.{Voice}
use Rattle.voice.proofs.Formed.{long_is, is_long}
use Rattle.settings.specs.Dirty.{dirty_in, flag, FORMAT, MONO_OR_STEREO, ADPCM_COEFFICIENTS, PARTIAL_EMBEDDED_BUFFER}
use Rattle.settings.specs.Dirty.{PARTIAL_RESET, ENABLE, INTERPOLATION, RATE_MULTIPLIER, BUFFER_QUEUE, FILTERS_ENABLED}
use Rattle.settings.specs.Dirty.{SIMPLE_FILTER, BIQUAD_FILTER, GAIN, SYNC_COUNT, RESET, EMBEDDED_BUFFER}
use Rattle.settings.specs.Steps.{reset_step, partial_reset_step, enable_step, sync_step, rate_step, interpolation_step, coefficients_step}
use Rattle.settings.specs.Steps.{gain_step, enabled_filters, simple_filters, biquad_filters, filters_step, format_step, stereo_step}
use Rattle.settings.specs.Steps.{lengthen_step}
use Rattle.config.specs.Parsed.{Configured}
use Rattle.entries.specs.Entries.{slot_count, embedded_entries, slots_entries, added}
use Rattle.config_laws.specs.Laws.{Keeps, RefusedUntouched, CleanUnchanged, Longer, Exactly, RefusedExactly, kept}
use Rattle.config.specs.Parsed.{steps, settled, to_add, refusal, parsed, configured, cleared, bytes_after}
use Rattle.queueing.specs.Refusal.{refusal_of}
use Rattle.queueing.specs.Queue.{pushed_all}
use Rattle.config_laws.proofs.Kept.{in_turn_lem}
use Rattle.config_laws.proofs.Settled.{settled_queued}

-- ---- refused

module _ (v u : Voice) (bytes after : List ℕ) (n : ℕ) where
  -- what a configuration comes to, by its two tests
  abbrev outcome : Bool → Bool → Configured
  outcome clean served =
      cond clean (record { number = 0; voice = v })
      (cond served (record { number = 0; voice = u }) (record { number = n; voice = v }))

  record_stays : (clean served : Bool) → ((outcome clean served).number ≡ 0 → ⊥) → (outcome clean served).voice ≡ v
  record_stays true served h = refl
  record_stays false true h = absurd (h refl)
  record_stays false false h = refl

  bytes_stay : (clean served : Bool) → ((outcome clean served).number ≡ 0 → ⊥) → cond clean bytes (cond served after bytes) ≡ bytes
  bytes_stay true served h = refl
  bytes_stay false true h = absurd (h refl)
  bytes_stay false false h = refl

  -- the number is the refusal's, where that is 0 of a zero dirty word
  number_stays : (clean served : Bool) → (clean ≡ true → n ≡ 0) → eqb n 0 ≡ served → (outcome clean served).number ≡ n
  number_stays true served h e = sym (h refl)
  number_stays false true h e = sym (eqb-true n 0 e)
  number_stays false false h e = refl

pub refused_untouched : RefusedUntouched
unfolding configured bytes_after
refused_untouched bytes cs v L h =
    let clean = eqb (dirty_in bytes) 0 in
    let served = eqb (refusal bytes cs v L) 0 in
    record {
      record_stays = record_stays v (parsed bytes cs v) bytes (cleared bytes) (refusal bytes cs v L) clean served h;
      bytes_stay = bytes_stay v (parsed bytes cs v) bytes (cleared bytes) (refusal bytes cs v L) clean served h;
    }

-- ---- a zero dirty word

module _ (bytes : List ℕ) (clean : dirty_in bytes ≡ 0) where
  pub no_flag : (bit : ℕ) → flag bytes bit ≡ false
  no_flag bit = ap (λ (n : ℕ). flagged n bit) clean ∙ ap (λ (n : ℕ). eqb (n % 2) 1) (zero-div bit)

  neither : (bit : ℕ) → (flag bytes bit || flag bytes EMBEDDED_BUFFER) ≡ false
  neither bit = or_no (flag bytes EMBEDDED_BUFFER) (no_flag bit) ∙ no_flag EMBEDDED_BUFFER

  enabled_none : (f : Filters) → enabled_filters bytes f ≡ f
  unfolding enabled_filters
  enabled_none f = cond_no _ _ (no_flag FILTERS_ENABLED)

  simple_none : (f : Filters) → simple_filters bytes f ≡ f
  unfolding simple_filters
  simple_none f = cond_no _ _ (no_flag SIMPLE_FILTER)

  biquad_none : (f : Filters) → biquad_filters bytes f ≡ f
  unfolding biquad_filters
  biquad_none f = cond_no _ _ (no_flag BIQUAD_FILTER)

  all_none : (f : Filters) → biquad_filters bytes (simple_filters bytes (enabled_filters bytes f)) ≡ f
  all_none f = biquad_none (simple_filters bytes (enabled_filters bytes f)) ∙ simple_none (enabled_filters bytes f) ∙ enabled_none f

  -- a record that is v stays v
  module _ (v : Voice) where
    abbrev Is : Voice → Type 0
    Is u = u ≡ v

    reset_none : Keeps Is (reset_step bytes)
    unfolding reset_step
    reset_none u e = cond_no _ _ (no_flag RESET) ∙ e

    partial_none : Keeps Is (partial_reset_step bytes)
    unfolding partial_reset_step
    partial_none u e = cond_no _ _ (no_flag PARTIAL_RESET) ∙ e

    enable_none : Keeps Is (enable_step bytes)
    unfolding enable_step
    enable_none u e = cond_no _ _ (no_flag ENABLE) ∙ e

    sync_none : Keeps Is (sync_step bytes)
    unfolding sync_step
    sync_none u e = cond_no _ _ (no_flag SYNC_COUNT) ∙ e

    rate_none : Keeps Is (rate_step bytes)
    unfolding rate_step
    rate_none u e = cond_no _ _ (no_flag RATE_MULTIPLIER) ∙ e

    interpolation_none : Keeps Is (interpolation_step bytes)
    unfolding interpolation_step
    interpolation_none u e = cond_no _ _ (no_flag INTERPOLATION) ∙ e

    coefficients_none : (cs : List ℕ) → Keeps Is (coefficients_step bytes cs)
    unfolding coefficients_step
    coefficients_none cs u e = cond_no _ _ (no_flag ADPCM_COEFFICIENTS) ∙ e

    gain_none : (k : ℕ) → Keeps Is (gain_step bytes k)
    unfolding gain_step
    gain_none k u e = cond_no _ _ (no_flag (GAIN * 2 ^ k)) ∙ e

    filters_none : Keeps Is (filters_step bytes)
    unfolding filters_step
    filters_none u e = (λ j. set_voice_filters (all_none u.filters j) u) ∙ e

    format_none : Keeps Is (format_step bytes)
    unfolding format_step
    format_none u e = cond_no _ _ (neither FORMAT) ∙ e

    stereo_none : Keeps Is (stereo_step bytes)
    unfolding stereo_step
    stereo_none u e = cond_no _ _ (neither MONO_OR_STEREO) ∙ e

    lengthen_none : Keeps Is (lengthen_step bytes)
    unfolding lengthen_step
    lengthen_none u e = cond_no _ _ (no_flag PARTIAL_EMBEDDED_BUFFER) ∙ e

    pub settled_none : (cs : List ℕ) → settled bytes cs v ≡ v
    unfolding settled
    settled_none cs =
        in_turn_lem Is (steps bytes cs) (
          reset_none,
          (
            partial_none,
            (
              enable_none,
              (
                sync_none,
                (
                  rate_none,
                  (
                    interpolation_none,
                    (
                      coefficients_none cs,
                      (gain_none 0, (gain_none 1, (gain_none 2, (filters_none, (format_none, (stereo_none, (lengthen_none, tt))))))),
                    ),
                  ),
                ),
              ),
            ),
          ),
        ) v refl

    pub none_to_add : (cs : List ℕ) → to_add bytes cs v ≡ []
    unfolding to_add added
    none_to_add cs =
        let f = (settled bytes cs v).format in
        let s = (settled bytes cs v).stereo in
        let first : embedded_entries bytes f s ≡ [] = cond_no _ _ (no_flag EMBEDDED_BUFFER) in
        let rest : cond (flag bytes BUFFER_QUEUE) (slots_entries bytes f s slot_count) [] ≡ [] = cond_no _ _ (no_flag BUFFER_QUEUE) in
        λ j. first j ++ rest j

    parsed_none : (cs : List ℕ) → parsed bytes cs v ≡ v
    unfolding parsed pushed_all
    parsed_none cs = (λ j. pushed_all (none_to_add cs j) (settled bytes cs v)) ∙ settled_none cs

    clean_served : (cs : List ℕ) (L : ℕ) → v.queued ≤ limit → refusal bytes cs v L ≡ 0
    unfolding refusal refusal_of
    clean_served cs L h =
        let fits : ltb limit (v.queued + 0) ≡ false = le-ltb limit (v.queued + 0) (omega arith) in
        (λ j. refusal_of (settled_none cs j).queued (none_to_add cs j) L) ∙ cond_no _ _ fits

pub clean_unchanged : CleanUnchanged
unfolding configured bytes_after
clean_unchanged bytes cs v L clean =
    let zero : eqb (dirty_in bytes) 0 ≡ true = ap (λ (n : ℕ). eqb n 0) clean in
    record { served = cond_yes _ _ zero; bytes_stay = cond_yes _ _ zero; steps_nothing = parsed_none bytes clean v cs }

-- ---- exactly if

module _ (L : ℕ) (es : List Entry) where
  longer_told : any_too_long L es ≡ true → Longer L es
  longer_told t =
      let one = some_one (too_long L) es t in
      let long = long_is L one.0 one.2 in
      record { entry = one.0; among = one.1; adpcm = long.0; longer = long.1 }

  longer_asked : Longer L es → any_too_long L es ≡ true
  longer_asked l = one_some (too_long L) l.entry es l.among (is_long L l.entry l.adpcm l.longer)

module _ (bytes cs : List ℕ) (v : Voice) (L : ℕ) where
  number_is : (dirty_in bytes ≡ 0 → v.queued ≤ limit) → (configured bytes cs v L).number ≡ refusal bytes cs v L
  unfolding configured
  number_is room =
      number_stays v (parsed bytes cs v) bytes bytes (refusal bytes cs v L) (eqb (dirty_in bytes) 0) (eqb (refusal bytes cs v L) 0)
      (λ t. let clean = eqb-true (dirty_in bytes) 0 t in clean_served bytes clean v cs L (room clean)) refl

pub refused_exactly : RefusedExactly
unfolding refusal refusal_of
refused_exactly bytes cs v L room = by (ltb limit (queued + length es)) (any_too_long L es) refl refl (number_is bytes cs v L room)
  where
    es : List Entry
    es = to_add bytes cs v

    queued : ℕ
    queued = (settled bytes cs v).queued

    number : ℕ
    number = (configured bytes cs v L).number

    count : ℕ
    count = kept bytes v + length es

    by : (over long : Bool) → ltb limit (queued + length es) ≡ over → any_too_long L es ≡ long → number ≡ cond over 20 (cond long 21 0)
        → Exactly number es count L
    by true long p q e =
        let over : limit < count = omega (arith, ltb-true limit (queued + length es) p, settled_queued bytes v cs) in
        record {
          twenty = (λ _. over, λ _. e);
          twenty_one = (λ f. absurd (omega arith), λ h. absurd (omega arith));
          none = (λ f. absurd (omega arith), λ h. absurd (omega arith));
        }
    by false true p q e =
        let room : count ≤ limit = omega (arith, ltb-false limit (queued + length es) p, settled_queued bytes v cs) in
        record {
          twenty = (λ f. absurd (omega arith), λ h. absurd (omega arith));
          twenty_one = (λ _. (room, longer_told L es q), λ _. e);
          none = (λ f. absurd (omega arith), λ h. absurd (h.1 (longer_told L es q)));
        }
    by false false p q e =
        let room : count ≤ limit = omega (arith, ltb-false limit (queued + length es) p, settled_queued bytes v cs) in
        let short : Longer L es → ⊥ = λ l. false≢true (sym q ∙ longer_asked L es l) in
        record {
          twenty = (λ f. absurd (omega arith), λ h. absurd (omega arith));
          twenty_one = (λ f. absurd (omega arith), λ h. absurd (short h.1));
          none = (λ _. (room, short), λ _. e);
        }
