-- What is left of an entry is no more than its length, and no more entries are queued than before, at every step before the entries: only
-- RESET, PARTIAL_RESET and the lengthening touch these. Assumes nothing.
use mathlib.Core.Bool.{◌||◌}
use mathlib.Core.List.{List}
use Prim.Native.Nat.{ℕ, ◌*◌, ◌^◌, ◌-◌, ◌≤◌, zero-le}
use native.Mathlib.Omega.{arith}
use lib.Dec.{lit≤}
use Rattle.lists.proofs.Bools.{cond_either}
use Rattle.voice.specs.Blank.{default_voice}
use Rattle.voice.specs.declared.record.Voice.{Voice}
use Rattle.settings.specs.Dirty.{flag, FORMAT, MONO_OR_STEREO, ADPCM_COEFFICIENTS, PARTIAL_EMBEDDED_BUFFER, PARTIAL_RESET, ENABLE}
use Rattle.settings.specs.Dirty.{INTERPOLATION, RATE_MULTIPLIER, GAIN, SYNC_COUNT, RESET, EMBEDDED_BUFFER}
use Rattle.settings.specs.Steps.{reset_step, partial_reset_step, enable_step, sync_step, rate_step, interpolation_step, coefficients_step}
use Rattle.settings.specs.Steps.{gain_step, filters_step, format_step, stereo_step, lengthen_step}
use Rattle.config.specs.Parsed.{in_turn, play_steps, sound_steps, settled}

-- of a record that had n entries queued
pub record Room (n : ℕ) (v : Voice) : Type 0 where
  pub fits : v.remaining ≤ v.length
  pub queue : v.queued ≤ n

no_longer : (n p : ℕ) → n - p ≤ n
no_longer n p = omega arith

module _ (bytes : List ℕ) (n : ℕ) where
  reset_room : (u : Voice) → Room n u → Room n (reset_step bytes u)
  unfolding reset_step default_voice
  reset_room u p = cond_either (Room n) (flag bytes RESET) _ u (record { fits = lit≤ tt; queue = zero-le }) p

  partial_room : (u : Voice) → Room n u → Room n (partial_reset_step bytes u)
  unfolding partial_reset_step
  partial_room u p = cond_either (Room n) (flag bytes PARTIAL_RESET) _ u (record { fits = p.fits; queue = zero-le }) p

  enable_room : (u : Voice) → Room n u → Room n (enable_step bytes u)
  unfolding enable_step
  enable_room u p = cond_either (Room n) (flag bytes ENABLE) _ u (record { fits = p.fits; queue = p.queue }) p

  sync_room : (u : Voice) → Room n u → Room n (sync_step bytes u)
  unfolding sync_step
  sync_room u p = cond_either (Room n) (flag bytes SYNC_COUNT) _ u (record { fits = p.fits; queue = p.queue }) p

  rate_room : (u : Voice) → Room n u → Room n (rate_step bytes u)
  unfolding rate_step
  rate_room u p = cond_either (Room n) (flag bytes RATE_MULTIPLIER) _ u (record { fits = p.fits; queue = p.queue }) p

  interpolation_room : (u : Voice) → Room n u → Room n (interpolation_step bytes u)
  unfolding interpolation_step
  interpolation_room u p = cond_either (Room n) (flag bytes INTERPOLATION) _ u (record { fits = p.fits; queue = p.queue }) p

  coefficients_room : (cs : List ℕ) (u : Voice) → Room n u → Room n (coefficients_step bytes cs u)
  unfolding coefficients_step
  coefficients_room cs u p = cond_either (Room n) (flag bytes ADPCM_COEFFICIENTS) _ u (record { fits = p.fits; queue = p.queue }) p

  gain_room : (k : ℕ) (u : Voice) → Room n u → Room n (gain_step bytes k u)
  unfolding gain_step
  gain_room k u p = cond_either (Room n) (flag bytes (GAIN * 2 ^ k)) _ u (record { fits = p.fits; queue = p.queue }) p

  filters_room : (u : Voice) → Room n u → Room n (filters_step bytes u)
  unfolding filters_step
  filters_room u p = record { fits = p.fits; queue = p.queue }

  pub format_room : (u : Voice) → Room n u → Room n (format_step bytes u)
  unfolding format_step
  format_room u p = cond_either (Room n) (flag bytes FORMAT || flag bytes EMBEDDED_BUFFER) _ u (record { fits = p.fits; queue = p.queue }) p

  pub stereo_room : (u : Voice) → Room n u → Room n (stereo_step bytes u)
  unfolding stereo_step
  stereo_room u p =
      cond_either (Room n) (flag bytes MONO_OR_STEREO || flag bytes EMBEDDED_BUFFER) _ u (record { fits = p.fits; queue = p.queue }) p

  lengthen_room : (u : Voice) → Room n u → Room n (lengthen_step bytes u)
  unfolding lengthen_step
  lengthen_room u p =
      cond_either (Room n) (flag bytes PARTIAL_EMBEDDED_BUFFER) _ u
      (record { fits = no_longer _ (u.length - u.remaining); queue = p.queue }) p

  play_room : (v : Voice) → Room n v → Room n (in_turn (play_steps bytes) v)
  play_room v p = interpolation_room _ (rate_room _ (sync_room _ (enable_room _ (partial_room _ (reset_room v p)))))

  -- before the format
  pub sound_room : (cs : List ℕ) (v : Voice) → Room n v → Room n (in_turn (sound_steps bytes cs) (in_turn (play_steps bytes) v))
  sound_room cs v p = filters_room _ (gain_room 2 _ (gain_room 1 _ (gain_room 0 _ (coefficients_room cs _ (play_room v p)))))

  -- before the entries
  pub settled_room : (cs : List ℕ) (v : Voice) → Room n v → Room n (settled bytes cs v)
  unfolding settled
  settled_room cs v p = lengthen_room _ (stereo_room _ (format_room _ (sound_room cs v p)))
