-- A configuration keeps the arrays of a record as long as they are: each step stores as many elements as it takes away. Assumes nothing.
use mathlib.Core.Path.{◌≡◌, refl}
use mathlib.Core.Bool.{Bool, true, ◌&&◌, ◌||◌, cond}
use mathlib.Core.List.{List}
use Prim.Native.Nat.{ℕ, ◌*◌, ◌/◌, ◌%◌, ◌^◌}
use lib.Dec.{eqb}
use lib.IntN.{ℤ, pos}
use lib.ListN.{length, replicate, length-set}
use Rattle.lists.proofs.Bools.{cond_either}
use Rattle.lists.proofs.Splice.{length_splice}
use Rattle.fields.specs.Fields.{offset_of, configuration}
use Rattle.little.specs.Little.{at16}
use Rattle.filters.specs.Defaults.{default_simple, default_biquad}
use Rattle.filters.specs.declared.state.BiquadFilter.{BiquadFilter}
use Rattle.filters.specs.declared.state.Filters.{Filters}
use Rattle.filters.specs.declared.state.SimpleFilter.{SimpleFilter}
use Rattle.voice.specs.Blank.{default_voice}
use Rattle.voice.specs.Range.{sized}
use Rattle.voice.specs.declared.record.Entry.{Entry}
use Rattle.voice.specs.declared.record.Voice.{Voice}
use Rattle.voice.proofs.Range.{test_sized, sized_test, default_sized}
use Rattle.settings.specs.Dirty.{flag, FORMAT, MONO_OR_STEREO, ADPCM_COEFFICIENTS, PARTIAL_EMBEDDED_BUFFER, PARTIAL_RESET, ENABLE}
use Rattle.settings.specs.Dirty.{INTERPOLATION, RATE_MULTIPLIER, FILTERS_ENABLED, SIMPLE_FILTER, BIQUAD_FILTER, GAIN}
use Rattle.settings.specs.Dirty.{SYNC_COUNT, RESET, EMBEDDED_BUFFER}
use Rattle.settings.specs.Steps.{reset_step, partial_reset_step, enable_step, sync_step, rate_step, interpolation_step, coefficients_step}
use Rattle.settings.specs.Steps.{gain_step, enabled_filters, simple_filters, biquad_filters, filters_step, format_step, stereo_step}
use Rattle.settings.specs.Steps.{lengthen_step}
use Rattle.config_laws.specs.Laws.{Keeps, EachKeeps, KeepsSized}
use Rattle.config.specs.Parsed.{steps, settled}
use Rattle.queueing.specs.Queue.{pushed}
use Rattle.config_laws.proofs.Kept.{in_turn_lem, whole_keeps}

-- ---- the filters

record Fitting (f : Filters) : Type 0 where
  y1 : length f.simple.y1 ≡ 2
  b : length f.biquad.b ≡ 3
  a : length f.biquad.a ≡ 2
  x : length f.biquad.x ≡ 4
  y : length f.biquad.y ≡ 4

-- one of two lists of a length
either_long : (n : ℕ) (b : Bool) (xs ys : List ℤ) → length xs ≡ n → length ys ≡ n → length (cond b xs ys) ≡ n
either_long n b xs ys p q = cond_either (λ (zs : List ℤ). length zs ≡ n) b xs ys p q

module _ (bytes : List ℕ) where
  enabled_fitting : (f : Filters) → Fitting f → Fitting (enabled_filters bytes f)
  unfolding enabled_filters
  enabled_fitting f p =
      let word = at16 bytes (offset_of configuration "FILTERS_ENABLED") in
      let simple = eqb (word % 2) 1 && f.has_simple in
      let biquad = eqb (word / 2 % 2) 1 && f.has_biquad in
      cond_either Fitting (flag bytes FILTERS_ENABLED) _ f
      (record {
        y1 = cond_either (λ (s : SimpleFilter). length s.y1 ≡ 2) simple f.simple default_simple p.y1 refl;
        b = cond_either (λ (s : BiquadFilter). length s.b ≡ 3) biquad f.biquad default_biquad p.b refl;
        a = cond_either (λ (s : BiquadFilter). length s.a ≡ 2) biquad f.biquad default_biquad p.a refl;
        x = cond_either (λ (s : BiquadFilter). length s.x ≡ 4) biquad f.biquad default_biquad p.x refl;
        y = cond_either (λ (s : BiquadFilter). length s.y ≡ 4) biquad f.biquad default_biquad p.y refl;
      })
      p

  simple_fitting : (f : Filters) → Fitting f → Fitting (simple_filters bytes f)
  unfolding simple_filters
  simple_fitting f p =
      cond_either Fitting (flag bytes SIMPLE_FILTER) _ f
      (record {
        y1 = either_long 2 f.has_simple f.simple.y1 (replicate 2 (pos 0)) p.y1 refl;
        b = p.b;
        a = p.a;
        x = p.x;
        y = p.y;
      })
      p

  biquad_fitting : (f : Filters) → Fitting f → Fitting (biquad_filters bytes f)
  unfolding biquad_filters
  biquad_fitting f p =
      cond_either Fitting (flag bytes BIQUAD_FILTER) _ f
      (record {
        y1 = p.y1;
        b = refl;
        a = refl;
        x = either_long 4 f.has_biquad f.biquad.x (replicate 4 (pos 0)) p.x refl;
        y = either_long 4 f.has_biquad f.biquad.y (replicate 4 (pos 0)) p.y refl;
      })
      p

-- ---- the steps

abbrev S : Voice → Type 0
S u = sized u ≡ true

pushed_sized : (e : Entry) → Keeps S (pushed e)
unfolding pushed sized
pushed_sized e u p = simp length-set p

module _ (bytes : List ℕ) where
  reset_sized : Keeps S (reset_step bytes)
  unfolding reset_step
  reset_sized u p = cond_either S (flag bytes RESET) default_voice u (sized_test default_voice default_sized) p

  partial_sized : Keeps S (partial_reset_step bytes)
  unfolding partial_reset_step sized
  partial_sized u p = cond_either S (flag bytes PARTIAL_RESET) _ u p p

  enable_sized : Keeps S (enable_step bytes)
  unfolding enable_step sized
  enable_sized u p = cond_either S (flag bytes ENABLE) _ u p p

  sync_sized : Keeps S (sync_step bytes)
  unfolding sync_step sized
  sync_sized u p = cond_either S (flag bytes SYNC_COUNT) _ u p p

  rate_sized : Keeps S (rate_step bytes)
  unfolding rate_step sized
  rate_sized u p = cond_either S (flag bytes RATE_MULTIPLIER) _ u p p

  interpolation_sized : Keeps S (interpolation_step bytes)
  unfolding interpolation_step sized
  interpolation_sized u p = cond_either S (flag bytes INTERPOLATION) _ u p p

  coefficients_sized : (cs : List ℕ) → Keeps S (coefficients_step bytes cs)
  unfolding coefficients_step
  coefficients_sized cs u p =
      let s = test_sized u p in
      cond_either S (flag bytes ADPCM_COEFFICIENTS) _ u
      (sized_test _
      (record {
        gain = s.gain;
        marks = s.marks;
        ramp = s.ramp;
        coefficients = refl;
        queue = s.queue;
        frame = s.frame;
        y1 = s.y1;
        b = s.b;
        a = s.a;
        x = s.x;
        y = s.y;
      }))
      p

  gain_sized : (k : ℕ) → Keeps S (gain_step bytes k)
  unfolding gain_step sized
  gain_sized k u p = cond_either S (flag bytes (GAIN * 2 ^ k)) _ u (simp (length-set, length_splice) p) p

  filters_sized : Keeps S (filters_step bytes)
  unfolding filters_step
  filters_sized u p =
      let s = test_sized u p in
      let f = enabled_filters bytes u.filters in
      let g = simple_filters bytes f in
      let all : Fitting (biquad_filters bytes g) =
      biquad_fitting bytes g (simple_fitting bytes f (enabled_fitting bytes u.filters
      (record { y1 = s.y1; b = s.b; a = s.a; x = s.x; y = s.y }))) in
      sized_test _
      (record {
        gain = s.gain;
        marks = s.marks;
        ramp = s.ramp;
        coefficients = s.coefficients;
        queue = s.queue;
        frame = s.frame;
        y1 = all.y1;
        b = all.b;
        a = all.a;
        x = all.x;
        y = all.y;
      })

  format_sized : Keeps S (format_step bytes)
  unfolding format_step sized
  format_sized u p = cond_either S (flag bytes FORMAT || flag bytes EMBEDDED_BUFFER) _ u p p

  stereo_sized : Keeps S (stereo_step bytes)
  unfolding stereo_step sized
  stereo_sized u p = cond_either S (flag bytes MONO_OR_STEREO || flag bytes EMBEDDED_BUFFER) _ u p p

  lengthen_sized : Keeps S (lengthen_step bytes)
  unfolding lengthen_step sized
  lengthen_sized u p = cond_either S (flag bytes PARTIAL_EMBEDDED_BUFFER) _ u p p

each_sized : (bytes cs : List ℕ) → EachKeeps S (steps bytes cs)
each_sized bytes cs = (
  reset_sized bytes,
  (
    partial_sized bytes,
    (
      enable_sized bytes,
      (
        sync_sized bytes,
        (
          rate_sized bytes,
          (
            interpolation_sized bytes,
            (
              coefficients_sized bytes cs,
              (
                gain_sized bytes 0,
                (
                  gain_sized bytes 1,
                  (
                    gain_sized bytes 2,
                    (filters_sized bytes, (format_sized bytes, (stereo_sized bytes, (lengthen_sized bytes, tt)))),
                  ),
                ),
              ),
            ),
          ),
        ),
      ),
    ),
  ),
)

pub settled_sized : (bytes cs : List ℕ) (v : Voice) → sized v ≡ true → sized (settled bytes cs v) ≡ true
unfolding settled
settled_sized bytes cs v p = in_turn_lem S (steps bytes cs) (each_sized bytes cs) v p

pub keeps_sized : KeepsSized
keeps_sized bytes cs v L p = whole_keeps S bytes cs v L (each_sized bytes cs) (λ e m short u room q. pushed_sized e u q) p
