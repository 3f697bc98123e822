-- A configuration keeps a record well-formed: each step does, since what it reads for number 7's tests passes them, and so does queueing an
-- entry that fits the lane. Assumes nothing.
use mathlib.Core.Path.{◌≡◌, refl, ◌∙◌}
use mathlib.Core.Bool.{Bool, true, false, ◌&&◌, ◌||◌, cond}
use mathlib.Core.List.{List, [], ◌∷◌}
use Prim.Native.Nat.{ℕ, zero, suc, ◌+◌, ◌*◌, ◌-◌, ◌/◌, ◌%◌, ◌^◌, ◌<◌, ◌≤◌}
use native.Mathlib.Omega.{arith}
use lib.Dec.{eqb, ltb}
use lib.Ieee.{lt, of_bits, binary32}
use lib.IntN.{ℤ, pos, negsuc}
use lib.ListN.{get_or, set, replicate}
use borrow.Author.Tests.{ltb-true, ltb-false, le-leb}
use Rattle.lists.proofs.Bools.{and_yes, and_both, cond_either}
use Rattle.numbers.specs.Bits.{rate}
use Rattle.numbers.specs.Literals.{+1}
use Rattle.numbers.specs.Tests.{is_rate}
use Rattle.fields.specs.Fields.{offset_of, configuration}
use Rattle.little.specs.Little.{at16}
use Rattle.filters.specs.Defaults.{default_simple, default_biquad}
use Rattle.filters.specs.Range.{in_range, all_in_range, simple_in_range, biquad_in_range, filters_in_range}
use Rattle.filters.specs.declared.state.BiquadFilter.{BiquadFilter}
use Rattle.filters.specs.declared.state.Filters.{Filters}
use Rattle.filters.specs.declared.state.SimpleFilter.{SimpleFilter}
use Rattle.voice.specs.Blank.{limit, blank_entry, default_voice}
use Rattle.voice.specs.Long.{too_long}
use Rattle.voice.specs.Malformed.{malformed}
use Rattle.voice.specs.declared.record.Entry.{Entry}
use Rattle.voice.specs.declared.record.Voice.{Voice}
use Rattle.voice.proofs.Formed.{not_malformed_formed, formed_not_malformed, default_formed, entries_at, at_entries}
use Rattle.settings.specs.Dirty.{flag, FORMAT, MONO_OR_STEREO, ADPCM_COEFFICIENTS, PARTIAL_EMBEDDED_BUFFER, PARTIAL_RESET, ENABLE}
use Rattle.settings.specs.Dirty.{INTERPOLATION, RATE_MULTIPLIER, FILTERS_ENABLED, SIMPLE_FILTER, BIQUAD_FILTER, GAIN}
use Rattle.settings.specs.Dirty.{SYNC_COUNT, RESET, EMBEDDED_BUFFER}
use Rattle.settings.specs.Steps.{half, reset_step, partial_reset_step, enable_step, sync_step, rate_step, interpolation_step}
use Rattle.settings.specs.Steps.{coefficients_step}
use Rattle.settings.specs.Steps.{gain_step, enabled_filters, simple_filters, biquad_filters, filters_step, format_step, stereo_step}
use Rattle.settings.specs.Steps.{lengthen_step}
use Rattle.config_laws.specs.Laws.{Keeps, KeepsFormed}
use Rattle.queueing.specs.Queue.{pushed}
use Rattle.config_laws.proofs.Kept.{whole_keeps}

-- ---- the rate that is read

one_rate : is_rate +1 ≡ true
unfolding is_rate lt
one_rate = refl

read_rate : (bits : ℕ) → is_rate (rate bits) ≡ true
unfolding rate
read_rate bits = by (is_rate (of_bits binary32 bits)) refl
  where
    by : (b : Bool) → is_rate (of_bits binary32 bits) ≡ b → is_rate (cond b (of_bits binary32 bits) +1) ≡ true
    by true p = p
    by false p = one_rate

-- ---- the filters' numbers

-- whatever is read as a signed half is in a filter's range
half_range : (bytes : List ℕ) (at : ℕ) → in_range (half bytes at) ≡ true
unfolding in_range
half_range bytes at = by (at16 bytes at) (ltb (at16 bytes at) 32768) refl
  where
    by : (k : ℕ) (b : Bool) → ltb k 32768 ≡ b → in_range (cond b (pos k) (negsuc (65535 - k))) ≡ true
    by k true e = let l : k < 32768 = ltb-true k 32768 e in le-leb k 32768 (omega arith)
    by k false e = let g : 32768 ≤ k = ltb-false k 32768 e in le-leb (suc (65535 - k)) 32768 (omega arith)

half_next : (bytes : List ℕ) (at : ℕ) (zs : List ℤ) → all_in_range zs ≡ true → all_in_range (half bytes at ∷ zs) ≡ true
half_next bytes at zs t = and_yes (all_in_range zs) (half_range bytes at) ∙ t

zeros_two : all_in_range (replicate 2 (pos 0)) ≡ true
unfolding in_range
zeros_two = refl

zeros_four : all_in_range (replicate 4 (pos 0)) ≡ true
unfolding in_range
zeros_four = refl

default_simple_lem : simple_in_range default_simple ≡ true
unfolding in_range
default_simple_lem = refl

default_biquad_lem : biquad_in_range default_biquad ≡ true
unfolding in_range
default_biquad_lem = refl

-- a filter in range where it is on, and the same by its mark
record Ranged (f : Filters) : Type 0 where
  simple : f.has_simple ≡ true → simple_in_range f.simple ≡ true
  biquad : f.has_biquad ≡ true → biquad_in_range f.biquad ≡ true

under : (on t : Bool) → cond on t true ≡ true → on ≡ true → t ≡ true
under true t e p = e
under false t e p = cc

over : (on t : Bool) → (on ≡ true → t ≡ true) → cond on t true ≡ true
over true t h = h refl
over false t h = refl

ranged : (f : Filters) → filters_in_range f ≡ true → Ranged f
ranged f e =
    let simple = simple_in_range f.simple in
    let biquad = biquad_in_range f.biquad in
    let both = and_both (cond f.has_simple simple true) (cond f.has_biquad biquad true) e in
    record { simple = under f.has_simple simple both.0; biquad = under f.has_biquad biquad both.1 }

in_range_lem : (f : Filters) → Ranged f → filters_in_range f ≡ true
in_range_lem f r =
    and_yes (cond f.has_biquad (biquad_in_range f.biquad) true) (over f.has_simple (simple_in_range f.simple) r.simple)
    ∙ over f.has_biquad (biquad_in_range f.biquad) r.biquad

-- a filter kept where it was on and stays so
chosen : {A : Type 0} (test : A → Bool) (blank : A) → test blank ≡ true
    → (on has : Bool) (s : A) → (has ≡ true → test s ≡ true) → test (cond (on && has) s blank) ≡ true
chosen test blank t true true s h = h refl
chosen test blank t true false s h = t
chosen test blank t false has s h = t

-- a state kept where the filter was on
state : (on : Bool) (zs blank : List ℤ) → (on ≡ true → all_in_range zs ≡ true) → all_in_range blank ≡ true
    → all_in_range (cond on zs blank) ≡ true
state true zs blank h b = h refl
state false zs blank h b = b

simple_state : (s : SimpleFilter) → simple_in_range s ≡ true → all_in_range s.y1 ≡ true
simple_state s t =
    (and_both (in_range s.a1) (all_in_range s.y1) (and_both (in_range s.b0) (in_range s.a1 && all_in_range s.y1) t).1).1

biquad_states : (s : BiquadFilter) → biquad_in_range s ≡ true → (all_in_range s.x ≡ true) × (all_in_range s.y ≡ true)
biquad_states s t =
    let states = all_in_range s.x && all_in_range s.y in
    let rest = (and_both (all_in_range s.b) (all_in_range s.a && states) t).1 in
    and_both (all_in_range s.x) (all_in_range s.y) (and_both (all_in_range s.a) states rest).1

module _ (bytes : List ℕ) where
  enabled_ranged : (f : Filters) → Ranged f → Ranged (enabled_filters bytes f)
  unfolding enabled_filters
  enabled_ranged f p =
      let word = at16 bytes (offset_of configuration "FILTERS_ENABLED") in
      cond_either Ranged (flag bytes FILTERS_ENABLED) _ f
      (record {
        simple = λ on. chosen simple_in_range default_simple default_simple_lem (eqb (word % 2) 1) f.has_simple f.simple p.simple;
        biquad = λ on. chosen biquad_in_range default_biquad default_biquad_lem (eqb (word / 2 % 2) 1) f.has_biquad f.biquad p.biquad;
      })
      p

  simple_ranged : (f : Filters) → Ranged f → Ranged (simple_filters bytes f)
  unfolding simple_filters
  simple_ranged f p =
      let at = offset_of configuration "SIMPLE_FILTER" in
      let y1 = cond f.has_simple f.simple.y1 (replicate 2 (pos 0)) in
      cond_either Ranged (flag bytes SIMPLE_FILTER) _ f
      (record {
        simple = λ on.
            half_next bytes at (half bytes (at + 2) ∷ y1) (half_next bytes (at + 2) y1
            (state f.has_simple f.simple.y1 (replicate 2 (pos 0)) (λ has. simple_state f.simple (p.simple has)) zeros_two));
        biquad = p.biquad;
      })
      p

  biquad_ranged : (f : Filters) → Ranged f → Ranged (biquad_filters bytes f)
  unfolding biquad_filters
  biquad_ranged f p =
      let at = offset_of configuration "BIQUAD_FILTER" in
      cond_either Ranged (flag bytes BIQUAD_FILTER) _ f
      (record {
        simple = p.simple;
        biquad = λ on.
            and_yes _
            (half_next bytes (at + 8) (half bytes (at + 6) ∷ half bytes (at + 4) ∷ [])
            (half_next bytes (at + 6) (half bytes (at + 4) ∷ []) (half_next bytes (at + 4) [] refl)))
            ∙ and_yes _ (half_next bytes (at + 2) (half bytes at ∷ []) (half_next bytes at [] refl))
            ∙ and_yes _
            (state f.has_biquad f.biquad.x (replicate 4 (pos 0)) (λ has. (biquad_states f.biquad (p.biquad has)).0) zeros_four)
            ∙ state f.has_biquad f.biquad.y (replicate 4 (pos 0)) (λ has. (biquad_states f.biquad (p.biquad has)).1) zeros_four;
      })
      p

  filters_in_range_lem : (f : Filters) → filters_in_range f ≡ true
      → filters_in_range (biquad_filters bytes (simple_filters bytes (enabled_filters bytes f))) ≡ true
  filters_in_range_lem f e =
      let g = enabled_filters bytes f in
      let h = simple_filters bytes g in
      in_range_lem (biquad_filters bytes h) (biquad_ranged h (simple_ranged g (enabled_ranged f (ranged f e))))

-- ---- the steps

-- a place of a list after a store at place i, no place past i asked
stored : (P : Entry → Type 0) (l : List Entry) (i : ℕ) (e d : Entry) → P e → P d
    → (k : ℕ) → (k < i → P (get_or l k d)) → k < suc i → P (get_or (set l i e) k d)
stored P [] i e d new blank k h b = blank
stored P (x ∷ xs) zero e d new blank zero h b = new
stored P (x ∷ xs) zero e d new blank (suc k) h b = let bad : ⊥ = omega arith in absurd bad
stored P (x ∷ xs) (suc i) e d new blank zero h b = h (omega arith)
stored P (x ∷ xs) (suc i) e d new blank (suc k) h b = stored P xs i e d new blank k (λ l. h (omega arith)) (omega arith)

module _ (L : ℕ) where
  abbrev F : Voice → Type 0
  F u = malformed L u ≡ false

  blank_short : too_long L blank_entry ≡ false
  unfolding too_long blank_entry
  blank_short = refl

  pushed_formed : (e : Entry) → too_long L e ≡ false → (u : Voice) → u.queued < limit → F u → F (pushed e u)
  unfolding pushed
  pushed_formed e short u h p =
      let w = not_malformed_formed L u p in
      formed_not_malformed L _
      (record {
        queued = omega arith;
        remaining = w.remaining;
        decoded = w.decoded;
        entries =
            at_entries L (pushed e u) (λ k l.
            stored (λ (x : Entry). too_long L x ≡ false) u.queue u.queued e blank_entry short blank_short k
            (entries_at L u w.entries k) (omega arith));
        rate = w.rate;
        fraction = w.fraction;
        filters = w.filters;
      })

  module _ (bytes : List ℕ) where
    reset_formed : Keeps F (reset_step bytes)
    unfolding reset_step
    reset_formed u p = cond_either F (flag bytes RESET) default_voice u (formed_not_malformed L default_voice (default_formed L)) p

    partial_formed : Keeps F (partial_reset_step bytes)
    unfolding partial_reset_step
    partial_formed u p =
        let w = not_malformed_formed L u p in
        cond_either F (flag bytes PARTIAL_RESET) _ u
        (formed_not_malformed L _
        (record {
          queued = omega arith;
          remaining = w.remaining;
          decoded = w.decoded;
          entries = refl;
          rate = w.rate;
          fraction = w.fraction;
          filters = w.filters;
        }))
        p

    enable_formed : Keeps F (enable_step bytes)
    unfolding enable_step malformed
    enable_formed u p = cond_either F (flag bytes ENABLE) _ u p p

    sync_formed : Keeps F (sync_step bytes)
    unfolding sync_step malformed
    sync_formed u p = cond_either F (flag bytes SYNC_COUNT) _ u p p

    rate_formed : Keeps F (rate_step bytes)
    unfolding rate_step
    rate_formed u p =
        let w = not_malformed_formed L u p in
        cond_either F (flag bytes RATE_MULTIPLIER) _ u
        (formed_not_malformed L _
        (record {
          queued = w.queued;
          remaining = w.remaining;
          decoded = w.decoded;
          entries = w.entries;
          rate = read_rate _;
          fraction = w.fraction;
          filters = w.filters;
        }))
        p

    interpolation_formed : Keeps F (interpolation_step bytes)
    unfolding interpolation_step malformed
    interpolation_formed u p = cond_either F (flag bytes INTERPOLATION) _ u p p

    coefficients_formed : (cs : List ℕ) → Keeps F (coefficients_step bytes cs)
    unfolding coefficients_step malformed
    coefficients_formed cs u p = cond_either F (flag bytes ADPCM_COEFFICIENTS) _ u p p

    gain_formed : (k : ℕ) → Keeps F (gain_step bytes k)
    unfolding gain_step malformed
    gain_formed k u p = cond_either F (flag bytes (GAIN * 2 ^ k)) _ u p p

    filters_formed : Keeps F (filters_step bytes)
    unfolding filters_step
    filters_formed u p =
        let w = not_malformed_formed L u p in
        formed_not_malformed L _
        (record {
          queued = w.queued;
          remaining = w.remaining;
          decoded = w.decoded;
          entries = w.entries;
          rate = w.rate;
          fraction = w.fraction;
          filters = filters_in_range_lem bytes u.filters w.filters;
        })

    format_formed : Keeps F (format_step bytes)
    unfolding format_step malformed
    format_formed u p = cond_either F (flag bytes FORMAT || flag bytes EMBEDDED_BUFFER) _ u p p

    stereo_formed : Keeps F (stereo_step bytes)
    unfolding stereo_step malformed
    stereo_formed u p = cond_either F (flag bytes MONO_OR_STEREO || flag bytes EMBEDDED_BUFFER) _ u p p

    no_longer : (n played : ℕ) → n - played ≤ n
    no_longer n played = omega arith

    lengthen_formed : Keeps F (lengthen_step bytes)
    unfolding lengthen_step
    lengthen_formed u p =
        let w = not_malformed_formed L u p in
        cond_either F (flag bytes PARTIAL_EMBEDDED_BUFFER) _ u
        (formed_not_malformed L _
        (record {
          queued = w.queued;
          remaining = no_longer _ (u.length - u.remaining);
          decoded = w.decoded;
          entries = w.entries;
          rate = w.rate;
          fraction = w.fraction;
          filters = w.filters;
        }))
        p

pub keeps_formed : KeepsFormed
keeps_formed bytes cs v L p =
    whole_keeps (F L) bytes cs v L (
      reset_formed L bytes,
      (
        partial_formed L bytes,
        (
          enable_formed L bytes,
          (
            sync_formed L bytes,
            (
              rate_formed L bytes,
              (
                interpolation_formed L bytes,
                (
                  coefficients_formed L bytes cs,
                  (
                    gain_formed L bytes 0,
                    (
                      gain_formed L bytes 1,
                      (
                        gain_formed L bytes 2,
                        (filters_formed L bytes, (format_formed L bytes, (stereo_formed L bytes, (lengthen_formed L bytes, tt)))),
                      ),
                    ),
                  ),
                ),
              ),
            ),
          ),
        ),
      ),
    )
    (λ e m short u room q. pushed_formed L e short u room q) p
