-- The start of the next entry of a voice's queue. Assumes nothing: these are definitions.
use Rattle.std.specs.Prelude.{Bool, true, false, not, ◌&&◌, cond, List, ◌++◌, ℕ, ◌-◌, ◌*◌, ◌/◌, min, ℤ, length, get_or, set, drop, Option}
use Rattle.std.specs.Prelude.{None, Some}
use Rattle.numbers.specs.Literals.{+0}
use Rattle.window.specs.Window.{present_in, look_up}
use Rattle.adpcm.specs.Sizes.{frame_bytes}
use Rattle.adpcm.specs.Code.{frames_of, decoded_samples, decoded_history}
use Rattle.adpcm.specs.Adpcm.{sample_of}
use Rattle.voice.specs.Blank.{blank_entry}
use Rattle.voice.specs.Long.{is_adpcm}
use Rattle.voice.specs.Set.{set_voice_history, set_voice_queue, set_voice_has_playing, set_voice_playing, set_voice_decoded}
use Rattle.voice.specs.Set.{set_voice_remaining, set_voice_length, set_voice_fraction, set_voice_current_buffer_id}
use Rattle.voice.specs.Set.{set_voice_last_buffer_id, set_voice_buffer_update, set_voice_position}
use Rattle.voice.specs.declared.record.Entry.{Entry}
use Rattle.voice.specs.declared.record.Voice.{Voice}
use Rattle.queue.specs.Played.{was_played, mark_played}
use Rattle.queue.specs.Removal.{removed}
use Rattle.queue.specs.Search.{searched}

-- what a dequeue comes to: the record, and whether an entry was queued
pub record Dequeued : Type 0 where
  pub voice : Voice
  pub found : Bool

-- the entry at a place of the queue
abbrev pub entry_at : ℕ → Voice → Entry
entry_at place v = get_or v.queue place blank_entry

-- "It is removed unless looping": a looping entry keeps its place, and is marked as played
unfoldable pub taken : ℕ → Voice → Voice
taken place v =
    cond (entry_at place v).looping (set_voice_queue (set v.queue place (mark_played (entry_at place v))) v) (removed place v)

-- where an entry starts: at its play position the first time, which is cut to the length, else at 0
unfoldable pub start_of : Entry → ℕ
start_of e = cond (was_played e) 0 (min e.play_position e.length)

-- the counters of a record in which an entry begins at a place of it
unfoldable pub begun_at : ℕ → Entry → Voice → Voice
begun_at start e v =
    set_voice_playing e
    (set_voice_has_playing true
    (set_voice_buffer_update (e.from_queue && not (was_played e))
    (set_voice_last_buffer_id 0
    (set_voice_current_buffer_id e.id
    (set_voice_fraction +0
    (set_voice_position start (set_voice_remaining (e.length - start) (set_voice_length e.length v))))))))

-- the history that an entry brings, whatever its format
unfoldable pub with_history : Entry → Voice → Voice
with_history e v = cond e.has_adpcm (set_voice_history e.adpcm v) v

-- a record in which an entry begins
unfoldable pub begun : Entry → Voice → Voice
begun e v = with_history e (begun_at (start_of e) e v)

-- ---- "ADPCM is decoded into the lane then and there"

-- "Address low two bits are cleared"
unfoldable pub aligned : ℕ → ℕ
aligned address = address / 4 * 4

module _ (bytes : List ℕ) (count : ℕ) (v : Voice) where
  -- decoded from bytes, on from the record's history: the history after the last sample, and how many there are
  unfoldable pub decoded_voice : Voice
  decoded_voice =
      set_voice_decoded count (set_voice_history (decoded_history sample_of v.coefficients v.history bytes count) v)

  -- "Decoding writes its own samples; all other lane places stay as found"
  unfoldable pub decoded_lane : List ℤ → List ℤ
  decoded_lane lane = decoded_samples sample_of v.coefficients v.history bytes count ++ drop count lane

module _ (window : List ℕ) (base : ℕ) where
  -- how many bytes an ADPCM entry has: whole frames, all of which are asked for
  abbrev pub bytes_of : Entry → ℕ
  bytes_of e = frames_of e.length * frame_bytes

  -- an ADPCM entry whose bytes are all present
  unfoldable pub decodable : Entry → Bool
  decodable e = is_adpcm e.format && present_in (length window) base (aligned e.address) (bytes_of e)

  abbrev pub adpcm_in : Entry → List ℕ
  adpcm_in e = look_up window base (aligned e.address) (bytes_of e)

  -- "absent ADPCM bytes, or a PCM entry, make the decoded count 0"
  unfoldable pub prepared_voice : Entry → Voice → Voice
  prepared_voice e v = cond (decodable e) (decoded_voice (adpcm_in e) e.length v) (set_voice_decoded 0 v)

  unfoldable pub prepared_lane : Entry → Voice → List ℤ → List ℤ
  prepared_lane e v lane = cond (decodable e) (decoded_lane (adpcm_in e) e.length v lane) lane

  -- the record just before its samples are decoded
  abbrev pub ready : ℕ → Voice → Voice
  ready place v = begun (entry_at place v) (taken place v)

  -- ---- "An empty queue is turned away first; the rest works on the entry found"

  abbrev pub dequeued_by : Option ℕ → Voice → Dequeued
  dequeued_by None v = record { voice = v; found = false }
  dequeued_by (Some place) v = record { voice = prepared_voice (entry_at place v) (ready place v); found = true }

  abbrev pub lane_by : Option ℕ → Voice → List ℤ → List ℤ
  lane_by None v lane = lane
  lane_by (Some place) v lane = prepared_lane (entry_at place v) (ready place v) lane

  -- the record, and whether an entry was queued
  unfoldable pub dequeued : Voice → Dequeued
  dequeued v = dequeued_by (searched v.queue v.queued) v

  unfoldable pub dequeued_lane : Voice → List ℤ → List ℤ
  dequeued_lane v lane = lane_by (searched v.queue v.queued) v lane
