-- One voice's frame as a function of values: what it is fed and what comes of it. Everything that is said of the calls rests on this.
-- Assumes nothing: these are definitions.
use Rattle.std.specs.Prelude.{ℕ, ◌*◌, false, cond, List, ◌++◌, eqb, ℤ, pos, length, take, drop, get_or, replicate}
use Rattle.lists.specs.Tabulate.{tabulate}
use Rattle.numbers.specs.Sizes.{MIXES}
use Rattle.filters.specs.Process.{passed_from, filters_after}
use Rattle.voice.specs.Set.{set_voice_filters, set_voice_frame, set_voice_has_ramp, set_voice_buffer_update}
use Rattle.voice.specs.Tidy.{tidied}
use Rattle.voice.specs.declared.record.Voice.{Voice}
use Rattle.config.specs.Parsed.{configured, bytes_after}
use Rattle.play.specs.Play.{played}
use Rattle.mix_voice.specs.Mixed.{ramped_at, summed}
use Rattle.status.specs.Status.{status_of}

-- "v's frame is fed v's record and lane, the region choice, v's configuration and coefficients in that region, the window and its base".
-- The region choice says where the two lists of bytes lie. L is the lane's length
pub record Fed : Type 0 where
  pub voice : Voice
  pub lane : List ℤ
  pub configuration : List ℕ
  pub coefficients : List ℕ
  pub window : List ℕ
  pub base : ℕ

abbrev pub fed : Voice → List ℤ → List ℕ → List ℕ → List ℕ → ℕ → Fed
fed v lane configuration coefficients window base = record {
  voice = v;
  lane = lane;
  configuration = configuration;
  coefficients = coefficients;
  window = window;
  base = base;
}

-- "served, modules 2 to 6 give v's record, lane, configuration and status bytes and what it adds"
pub record Given : Type 0 where
  pub voice : Voice
  pub lane : List ℤ
  pub configuration : List ℕ
  pub status : List ℕ
  pub parts : List ℤ

-- a voice is served, or refused with its number in the table
pub data Answer : Type 0 where
  served : Given → Answer
  refused : ℕ → Answer

-- ---- playing, and the filters

-- a voice whose frame has so many samples produced, with these filtered: "They run on produced samples only"
unfoldable pub filtered : ℕ → Voice → Voice
filtered produced v =
    let samples = take (produced * 2) v.frame in
    set_voice_frame (passed_from 0 v.filters samples ++ drop (produced * 2) v.frame)
    (set_voice_filters (filters_after 0 v.filters samples) v)

-- what a voice's frame sounds: a voice that is not enabled plays nothing and stays
unfoldable pub sounding : List ℕ → ℕ → Voice → List ℤ → Voice
sounding window base v lane =
    let f = played window base v lane in
    cond v.enabled (filtered f.produced f.voice) v

unfoldable pub sounding_lane : List ℕ → ℕ → Voice → List ℤ → List ℤ
sounding_lane window base v lane = cond v.enabled (played window base v lane).lane lane

-- ---- mixing

-- what it adds to each mix value. One that is not enabled, and so one that was switched off in this frame, adds 0
unfoldable pub parts_of : Voice → List ℤ
parts_of v = tabulate (λ k. cond v.enabled (ramped_at v.has_ramp v.ramp v.gain v.frame k) (pos 0)) MIXES

-- the mixes with parts added: "Mix sums wrap"
unfoldable pub mixed_with : List ℤ → List ℤ → List ℤ
mixed_with parts mixes = tabulate (λ k. summed (get_or mixes k (pos 0)) (get_or parts k (pos 0))) MIXES

-- ---- what is left

-- "Ramps are dropped also for disabled voices", and the update mark was reported in the status: once. Then the blanks
unfoldable pub left : Voice → Voice
left v = tidied (set_voice_buffer_update false (set_voice_has_ramp (replicate 3 false) v))

-- ---- the frame

module _ (f : Fed) where
  -- the number, 20 or 21, or 0, and the record after the configuration
  abbrev pub number : ℕ
  number = (configured f.configuration f.coefficients f.voice (length f.lane)).number

  abbrev pub settled_voice : Voice
  settled_voice = (configured f.configuration f.coefficients f.voice (length f.lane)).voice

  abbrev pub sounded_voice : Voice
  sounded_voice = sounding f.window f.base settled_voice f.lane

  unfoldable pub given : Given
  given = record {
    voice = left sounded_voice;
    lane = sounding_lane f.window f.base settled_voice f.lane;
    configuration = bytes_after f.configuration f.coefficients f.voice (length f.lane);
    status = status_of sounded_voice;
    parts = parts_of sounded_voice;
  }

  -- "The refusal number is v's in the table, else 0"
  unfoldable pub voice_frame : Answer
  voice_frame = cond (eqb number 0) (served given) (refused number)

-- ---- what an answer makes of what was there: "Refused, all stays and v adds 0 to every mix value"

abbrev pub number_of : Answer → ℕ
number_of (served g) = 0
number_of (refused n) = n

abbrev pub voice_after : Answer → Voice → Voice
voice_after (served g) v = g.voice
voice_after (refused n) v = v

abbrev pub lane_after : Answer → List ℤ → List ℤ
lane_after (served g) lane = g.lane
lane_after (refused n) lane = lane

abbrev pub configuration_after : Answer → List ℕ → List ℕ
configuration_after (served g) bytes = g.configuration
configuration_after (refused n) bytes = bytes

abbrev pub status_after : Answer → List ℕ → List ℕ
status_after (served g) bytes = g.status
status_after (refused n) bytes = bytes

abbrev pub mixes_after : Answer → List ℤ → List ℤ
mixes_after (served g) mixes = mixed_with g.parts mixes
mixes_after (refused n) mixes = mixes
