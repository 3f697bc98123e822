-- Module 5, what a voice plays in one frame, a sample at a time. Assumes nothing: these are definitions.
use Rattle.std.specs.Prelude.{Bool, true, false, not, ◌&&◌, cond, ℕ, zero, suc, ◌+◌, ◌-◌, ◌*◌, eqb, ℤ, pos, length, replicate}
use mathlib.Core.List.{List, [], ◌∷◌, ◌++◌, flat_map}
use Rattle.numbers.specs.Sizes.{FRAME_SAMPLES, FRAME}
use Rattle.steps.specs.Step.{moved}
use Rattle.steps.specs.declared.step.Cursor.{Cursor}
use Rattle.voice.specs.Set.{set_voice_enabled, set_voice_remaining, set_voice_fraction, set_voice_current_buffer_id}
use Rattle.voice.specs.Set.{set_voice_last_buffer_id, set_voice_buffer_update, set_voice_position, set_voice_frame}
use Rattle.voice.specs.Set.{set_voice_ran_out_at_frame_end}
use Rattle.voice.specs.declared.record.Voice.{Voice}
use Rattle.dequeue.specs.Dequeue.{dequeued, dequeued_lane}
use Rattle.samples.specs.declared.Sample.{Sample}
use Rattle.track.specs.Track.{track_of, cursor_of, sound_of}

-- a sample's two values, left and right
abbrev pub sides : Sample → List ℤ
sides s = s.left ∷ s.right ∷ []

-- a frame: samples, and "Samples past the produced count are 0"
unfoldable pub frame_of : List Sample → List ℤ
frame_of samples = flat_map sides samples ++ replicate (FRAME - length samples * 2) (pos 0)

-- a voice in the midst of a frame: its record and its lane, the samples produced so far, and how many entries were dequeued for them
pub record Midst : Type 0 where
  pub voice : Voice
  pub lane : List ℤ
  pub samples : List Sample
  pub dequeues : ℕ

-- a record with playing at another place of its entry
abbrev pub at : Cursor → Voice → Voice
at c v = set_voice_remaining c.remaining (set_voice_fraction c.fraction v)

-- what a frame comes to: the record and the lane, how many samples were produced, and how many entries were dequeued
pub record Frame : Type 0 where
  pub voice : Voice
  pub lane : List ℤ
  pub produced : ℕ
  pub dequeues : ℕ

-- ---- how a frame begins and ends

-- "It follows on when the last frame it played ended exactly as its entry did and an entry is queued"
unfoldable pub follows_on : Voice → Bool
follows_on v = v.ran_out_at_frame_end && not (eqb v.queued 0)

-- "A voice with nothing remaining and not following on spends a silent frame dequeuing, or switches off"
abbrev pub is_silent : Voice → Bool
is_silent v = eqb v.remaining 0 && not (follows_on v)

-- a record as a silent frame begins: nothing is produced, and that the last frame's entry ended with it is known no more
unfoldable pub opened : Voice → Voice
opened v = set_voice_frame (replicate FRAME (pos 0)) (set_voice_ran_out_at_frame_end false v)

-- a voice before the first sample of a frame
abbrev pub entering : Voice → List ℤ → Midst
entering v lane = record { voice = v; lane = lane; samples = []; dequeues = 0 }

-- the same in a frame that plays: its position is what was played of the entry
abbrev pub started : Voice → List ℤ → Midst
started v lane = entering (set_voice_position (v.length - v.remaining) v) lane

-- "switches off": the entry that ended is reported as the last one, and none as the current
unfoldable pub switched_off : Voice → Voice
switched_off v =
    set_voice_position 0
    (set_voice_current_buffer_id 0
    (set_voice_last_buffer_id v.current_buffer_id (set_voice_buffer_update true (set_voice_enabled false v))))

-- the record as the samples of a frame leave it: with them, and whether the frame "ended exactly as its entry did"
unfoldable pub ended : Midst → Voice
ended m =
    set_voice_frame (frame_of m.samples)
    (set_voice_ran_out_at_frame_end (eqb m.voice.remaining 0 && eqb (length m.samples) FRAME_SAMPLES) m.voice)

-- ---- a frame, a sample at a time

module _ (window : List ℕ) (base : ℕ) where
  -- one sample of the entry at hand, which then has so much less remaining as a step takes
  unfoldable pub sounded : Midst → Midst
  sounded m = record {
    voice = at (moved m.voice.rate (cursor_of m.voice)) m.voice;
    lane = m.lane;
    samples = m.samples ++ (sound_of window base m.lane (track_of m.voice) (cursor_of m.voice) ∷ []);
    dequeues = m.dequeues;
  }

  -- with the next entry dequeued
  unfoldable pub begun_next : Midst → Midst
  begun_next m = record {
    voice = (dequeued window base m.voice).voice;
    lane = dequeued_lane window base m.voice m.lane;
    samples = m.samples;
    dequeues = m.dequeues + 1;
  }

  -- one sample more: where nothing remains the next entry is dequeued for it, and with none queued nothing more is played
  unfoldable pub next : Midst → Midst
  next m =
      cond (eqb m.voice.remaining 0) (cond (dequeued window base m.voice).found (sounded (begun_next m)) m) (sounded m)

  -- so many samples more
  unfoldable pub onward : ℕ → Midst → Midst
  onward zero m = m
  onward (suc n) m = next (onward n m)

  -- ---- a frame

  -- "spends a silent frame dequeuing, or switches off"
  unfoldable pub silent_frame : Voice → List ℤ → Frame
  silent_frame v lane =
      let d = dequeued window base v in
      record {
        voice = cond d.found d.voice (switched_off v);
        lane = dequeued_lane window base v lane;
        produced = 0;
        dequeues = cond d.found 1 0;
      }

  unfoldable pub playing_frame : Voice → List ℤ → Frame
  playing_frame v lane =
      let m = onward FRAME_SAMPLES (started v lane) in
      record { voice = ended m; lane = m.lane; produced = length m.samples; dequeues = m.dequeues }

  -- "A voice with nothing remaining and not following on spends a silent frame dequeuing, or switches off"; any other plays
  unfoldable pub played : Voice → List ℤ → Frame
  played v lane = cond (is_silent v) (silent_frame (opened v) lane) (playing_frame v lane)
