-- What each flag of the dirty word does to a record, one definition for each step of document 01's order that comes before the entries:
-- "reset, partial reset, enable, sync, rate, interpolation, coefficients, gains, filters, format, position, lengthening
-- (PARTIAL_EMBEDDED_BUFFER)"; the position is read with the embedded entry. Where its flag is not set a step leaves the record alone.
-- Assumes nothing: these are definitions.
use Rattle.std.specs.Prelude.{ℕ, max, ◌+◌, ◌-◌, ◌*◌, ◌/◌, ◌%◌, ◌^◌, Bool, true, false, not, ◌&&◌, ◌||◌, cond, List, [], ◌∷◌, eqb, ℤ, pos}
use Rattle.std.specs.Prelude.{get_or, set, replicate}
use Rattle.lists.specs.Splice.{part, splice}
use Rattle.lists.specs.Tabulate.{tabulate}
use Rattle.numbers.specs.Wrap.{signed16}
use Rattle.numbers.specs.Bits.{gain, rate}
use Rattle.little.specs.Little.{at16, signed_halves, at32, at_dsp32}
use Rattle.fields.specs.Fields.{offset_of, configuration, gain_at}
use Rattle.filters.specs.Defaults.{default_simple, default_biquad}
use Rattle.filters.specs.declared.state.Filters.{Filters}
use Rattle.voice.specs.Blank.{default_voice}
use Rattle.voice.specs.Set.{set_entry_length, set_voice_enabled, set_voice_sync_count, set_voice_rate}
use Rattle.voice.specs.Set.{set_voice_format, set_voice_interpolation, set_voice_stereo}
use Rattle.voice.specs.Set.{set_voice_filters, set_voice_gain, set_voice_has_ramp, set_voice_ramp, set_voice_coefficients}
use Rattle.voice.specs.Set.{set_voice_queued, set_voice_playing, set_voice_length, set_voice_remaining, set_voice_ran_out_at_frame_end}
use Rattle.voice.specs.declared.record.Format.{Format}
use Rattle.voice.specs.declared.record.Format.TheVariants.{Pcm8, Pcm16, Adpcm}
use Rattle.voice.specs.declared.record.Interpolation.{Interpolation}
use Rattle.voice.specs.declared.record.Interpolation.TheVariants.{Polyphase, Linear, None}
use Rattle.voice.specs.declared.record.Voice.{Voice}
use Rattle.settings.specs.Dirty.{flag, FORMAT, MONO_OR_STEREO, ADPCM_COEFFICIENTS, PARTIAL_EMBEDDED_BUFFER, PARTIAL_RESET}
use Rattle.settings.specs.Dirty.{ENABLE, INTERPOLATION, RATE_MULTIPLIER, FILTERS_ENABLED, SIMPLE_FILTER, BIQUAD_FILTER, GAIN}
use Rattle.settings.specs.Dirty.{SYNC_COUNT, RESET, EMBEDDED_BUFFER}

-- interpolation byte: 1 linear, 2 none, any other polyphase
abbrev pub interpolation_of : ℕ → Interpolation
interpolation_of n = cond (eqb n 1) Linear (cond (eqb n 2) None Polyphase)

-- FLAGS1: bits 2 and 3 the format, bits 0 and 1 the channels
abbrev pub format_in : List ℕ → Format
format_in bytes =
    let code = at16 bytes (offset_of configuration "FLAGS1") / 4 % 4 in
    cond (eqb code 0) Pcm8 (cond (eqb code 2) Adpcm Pcm16)

abbrev pub stereo_in : List ℕ → Bool
stereo_in bytes = eqb (at16 bytes (offset_of configuration "FLAGS1") % 4) 2

-- how many bytes a voice's coefficients take: 16 of 16 bits
abbrev pub coefficient_bytes : ℕ
coefficient_bytes = 32

-- a signed half at a place, as a filter has it
abbrev pub half : List ℕ → ℕ → ℤ
half bytes at = signed16 (at16 bytes at)

module _ (bytes : List ℕ) where
  -- RESET: the whole record is the default again
  unfoldable pub reset_step : Voice → Voice
  reset_step v = cond (flag bytes RESET) default_voice v

  -- PARTIAL_RESET: the queue is cleared, and what follows on ends
  unfoldable pub partial_reset_step : Voice → Voice
  partial_reset_step v = cond (flag bytes PARTIAL_RESET) (set_voice_queued 0 (set_voice_ran_out_at_frame_end false v)) v

  -- ENABLE: any byte but 0 is on; what follows on ends
  unfoldable pub enable_step : Voice → Voice
  enable_step v =
      cond (flag bytes ENABLE)
      (set_voice_enabled (not (eqb (get_or bytes (offset_of configuration "ENABLE") 0) 0)) (set_voice_ran_out_at_frame_end false v)) v

  unfoldable pub sync_step : Voice → Voice
  sync_step v = cond (flag bytes SYNC_COUNT) (set_voice_sync_count (at16 bytes (offset_of configuration "SYNC_COUNT")) v) v

  -- "Rate not above 0 or not finite is 1.0"
  unfoldable pub rate_step : Voice → Voice
  rate_step v = cond (flag bytes RATE_MULTIPLIER) (set_voice_rate (rate (at32 bytes (offset_of configuration "RATE_MULTIPLIER"))) v) v

  unfoldable pub interpolation_step : Voice → Voice
  interpolation_step v =
      let mode = get_or bytes (offset_of configuration "INTERPOLATION") 0 in
      cond (flag bytes INTERPOLATION) (set_voice_interpolation (interpolation_of mode) v) v

  -- the 16 coefficients, from the voice's 32 bytes of them
  unfoldable pub coefficients_step : List ℕ → Voice → Voice
  coefficients_step coefficients v =
      cond (flag bytes ADPCM_COEFFICIENTS) (set_voice_coefficients (signed_halves 16 coefficients) v) v

  -- the gains of mix k, those before kept to fade from: "A gain not finite is 0.0"
  unfoldable pub gain_step : ℕ → Voice → Voice
  gain_step k v =
      cond (flag bytes (GAIN * 2 ^ k))
      (set_voice_has_ramp (set v.has_ramp k true)
      (set_voice_ramp (splice v.ramp (k * 4) (part (k * 4) 4 v.gain))
      (set_voice_gain (splice v.gain (k * 4) (tabulate (λ channel. gain (at32 bytes (gain_at k channel))) 4)) v)))
      v

  -- FILTERS_ENABLED: "Switching off forgets coefficients and state"; one that is on already is left as it is
  unfoldable pub enabled_filters : Filters → Filters
  enabled_filters f =
      let word = at16 bytes (offset_of configuration "FILTERS_ENABLED") in
      cond (flag bytes FILTERS_ENABLED)
      (record {
        has_simple = eqb (word % 2) 1;
        simple = cond (eqb (word % 2) 1 && f.has_simple) f.simple default_simple;
        has_biquad = eqb (word / 2 % 2) 1;
        biquad = cond (eqb (word / 2 % 2) 1 && f.has_biquad) f.biquad default_biquad;
      })
      f

  -- SIMPLE_FILTER: new coefficients, which switch it on; the state of one that was on stays
  unfoldable pub simple_filters : Filters → Filters
  simple_filters f =
      let at = offset_of configuration "SIMPLE_FILTER" in
      cond (flag bytes SIMPLE_FILTER)
      (record {
        has_simple = true;
        simple = record { b0 = half bytes at; a1 = half bytes (at + 2); y1 = cond f.has_simple f.simple.y1 (replicate 2 (pos 0)) };
        has_biquad = f.has_biquad;
        biquad = f.biquad;
      })
      f

  -- BIQUAD_FILTER: the halves stand in the order a2, a1, b2, b1, b0
  unfoldable pub biquad_filters : Filters → Filters
  biquad_filters f =
      let at = offset_of configuration "BIQUAD_FILTER" in
      cond (flag bytes BIQUAD_FILTER)
      (record {
        has_simple = f.has_simple;
        simple = f.simple;
        has_biquad = true;
        biquad = record {
          b = half bytes (at + 8) ∷ half bytes (at + 6) ∷ half bytes (at + 4) ∷ [];
          a = half bytes (at + 2) ∷ half bytes at ∷ [];
          x = cond f.has_biquad f.biquad.x (replicate 4 (pos 0));
          y = cond f.has_biquad f.biquad.y (replicate 4 (pos 0));
        };
      })
      f

  unfoldable pub filters_step : Voice → Voice
  filters_step v = set_voice_filters (biquad_filters (simple_filters (enabled_filters v.filters))) v

  -- FORMAT and MONO_OR_STEREO; an embedded entry brings both along
  unfoldable pub format_step : Voice → Voice
  format_step v =
      cond (flag bytes FORMAT || flag bytes EMBEDDED_BUFFER)
      (set_voice_format (format_in bytes) v) v

  unfoldable pub stereo_step : Voice → Voice
  stereo_step v = cond (flag bytes MONO_OR_STEREO || flag bytes EMBEDDED_BUFFER) (set_voice_stereo (stereo_in bytes) v) v

  -- PARTIAL_EMBEDDED_BUFFER: the entry being played is as long as it says, and no shorter than what was played of it
  unfoldable pub lengthen_step : Voice → Voice
  lengthen_step v =
      let played = v.length - v.remaining in
      let length = max (at_dsp32 bytes (offset_of configuration "LENGTH")) played in
      cond (flag bytes PARTIAL_EMBEDDED_BUFFER)
      (set_voice_length length
      (set_voice_remaining (length - played)
      (set_voice_playing (cond v.has_playing (set_entry_length length v.playing) v.playing) v)))
      v
