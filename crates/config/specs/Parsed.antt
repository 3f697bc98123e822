-- The configuration reader: the number, the record and the bytes after a voice's configuration. Assumes nothing: these are definitions.
use Rattle.std.specs.Prelude.{ℕ, cond, List, [], ◌∷◌, ◌++◌, eqb, replicate}
use Rattle.lists.specs.Splice.{splice}
use Rattle.fields.specs.Fields.{offset_of, configuration}
use Rattle.voice.specs.declared.record.Entry.{Entry}
use Rattle.voice.specs.declared.record.Voice.{Voice}
use Rattle.settings.specs.Dirty.{dirty_in, flag, BUFFER_QUEUE}
use Rattle.settings.specs.Steps.{reset_step, partial_reset_step, enable_step, sync_step, rate_step, interpolation_step, coefficients_step}
use Rattle.settings.specs.Steps.{gain_step, filters_step, format_step, stereo_step, lengthen_step}
use Rattle.entries.specs.Entries.{added}
use Rattle.queueing.specs.Refusal.{refusal_of}
use Rattle.queueing.specs.Queue.{pushed_all}

-- what a configuration comes to: 0, or the number of the refusal, and the record
pub record Configured : Type 0 where
  pub number : ℕ
  pub voice : Voice

-- steps taken in turn, the first one first
abbrev pub in_turn : List (Voice → Voice) → Voice → Voice
in_turn [] v = v
in_turn (step ∷ steps) v = in_turn steps (step v)

-- "Order: reset, partial reset, enable, sync, rate, interpolation, coefficients, gains, filters, format, position, lengthening": the
-- position is read with the embedded entry, which alone has one. In three runs: what plays, how it sounds, and what the entries will be.
module _ (bytes : List ℕ) where
  abbrev pub play_steps : List (Voice → Voice)
  play_steps =
      reset_step bytes ∷ partial_reset_step bytes ∷ enable_step bytes ∷ sync_step bytes ∷ rate_step bytes ∷ interpolation_step bytes ∷ []

  abbrev pub sound_steps : List ℕ → List (Voice → Voice)
  sound_steps coefficients =
      coefficients_step bytes coefficients ∷ gain_step bytes 0 ∷ gain_step bytes 1 ∷ gain_step bytes 2 ∷ filters_step bytes ∷ []

  abbrev pub last_steps : List (Voice → Voice)
  last_steps = format_step bytes ∷ stereo_step bytes ∷ lengthen_step bytes ∷ []

  abbrev pub steps : List ℕ → List (Voice → Voice)
  steps coefficients = play_steps ++ (sound_steps coefficients ++ last_steps)

module _ (bytes coefficients : List ℕ) (v : Voice) where
  -- the record after the steps that come before the entries
  unfoldable pub settled : Voice
  settled = in_turn (steps bytes coefficients) v

  -- "all entries the flags would add", with the format and the channels that the steps leave
  unfoldable pub to_add : List Entry
  to_add = added bytes settled.format settled.stereo

  -- "The count for 20 starts after clearing by RESET or PARTIAL_RESET": those are steps
  unfoldable pub refusal : ℕ → ℕ
  refusal L = refusal_of settled.queued to_add L

  -- the record after a configuration that is not refused
  unfoldable pub parsed : Voice
  parsed = pushed_all to_add settled

  -- What a voice's configuration comes to: "A zero dirty word does nothing"; refused, "that voice untouched"; else the record is parsed.
  unfoldable pub configured : ℕ → Configured
  configured L =
      cond (eqb (dirty_in bytes) 0) (record { number = 0; voice = v })
      (cond (eqb (refusal L) 0) (record { number = 0; voice = parsed }) (record { number = refusal L; voice = v }))

-- "the slot mask only if BUFFER_QUEUE was set"
unfoldable pub slots_cleared : List ℕ → List ℕ
slots_cleared bytes = cond (flag bytes BUFFER_QUEUE) (splice bytes (offset_of configuration "BUFFERS_DIRTY") (replicate 2 0)) bytes

-- "The dirty word is then 0"
unfoldable pub cleared : List ℕ → List ℕ
cleared bytes = splice (slots_cleared bytes) (offset_of configuration "DIRTY") (replicate 4 0)

-- the configuration's bytes after; refused, or with a zero dirty word, they stay
unfoldable pub bytes_after : List ℕ → List ℕ → Voice → ℕ → List ℕ
bytes_after bytes coefficients v L =
    cond (eqb (dirty_in bytes) 0) bytes (cond (eqb (refusal bytes coefficients v L) 0) (cleared bytes) bytes)
