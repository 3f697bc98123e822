-- What document 01 says of a frame as a whole, and what a frame keeps. Assumes nothing: these are statements.
use Rattle.std.specs.Prelude.{◌≡◌, Bool, true, false, List, ◌↔◌, ℕ, ◌+◌, ◌-◌, ◌*◌, ◌≤◌, ◌<◌, Float, ℤ, pos}
use Rattle.std.specs.Prelude.{length, drop, replicate, None, Some}
use Rattle.lists.specs.Some.{some, every}
use Rattle.numbers.specs.Sizes.{FRAME_SAMPLES, FRAME}
use Rattle.adpcm.specs.declared.History.{History}
use Rattle.filters.specs.declared.state.Filters.{Filters}
use Rattle.voice.specs.Malformed.{malformed, queued_in}
use Rattle.voice.specs.Range.{is_byte, signed, in_range, sized}
use Rattle.voice.specs.declared.record.Entry.{Entry}
use Rattle.voice.specs.declared.record.Format.TheVariants.{Adpcm}
use Rattle.voice.specs.declared.record.Format.{Format}
use Rattle.voice.specs.declared.record.Interpolation.{Interpolation}
use Rattle.voice.specs.declared.record.Voice.{Voice}
use Rattle.queue.specs.Search.{searched}
use Rattle.dequeue.specs.Dequeue.{entry_at, start_of}
use Rattle.play.specs.Play.{Frame, follows_on, is_silent, played}

-- what a dequeue sets, beside the counters of playing: the queue, the entry that plays, the history and the lane
pub record Entries : Type 0 where
  pub queue : List Entry
  pub queued : ℕ
  pub has_playing : Bool
  pub playing : Entry
  pub decoded : ℕ
  pub history : History
  pub lane : List ℤ

abbrev pub entries_of : Voice → List ℤ → Entries
entries_of v lane = record {
  queue = v.queue;
  queued = v.queued;
  has_playing = v.has_playing;
  playing = v.playing;
  decoded = v.decoded;
  history = v.history;
  lane = lane;
}

module _ (window : List ℕ) (base : ℕ) (v : Voice) (lane : List ℤ) where
  abbrev frame : Frame
  frame = played window base v lane

  -- Where a voice is said to be: "in a frame that plays, the status position is length less remaining at its start, or the start of the
  -- last entry dequeued in it", which is the entry that plays; "a silent dequeue gives that entry's start, switching off gives 0".
  pub record Positioned : Type 0 where
    pub plays : is_silent v ≡ false → frame.dequeues ≡ 0 → frame.voice.position ≡ v.length - v.remaining
    pub dequeues : is_silent v ≡ false → 0 < frame.dequeues → frame.voice.position ≡ start_of frame.voice.playing
    pub silent_dequeue :
        (place : ℕ) → is_silent v ≡ true → searched v.queue v.queued ≡ Some place → frame.voice.position ≡ start_of (entry_at place v)
    pub off : is_silent v ≡ true → searched v.queue v.queued ≡ None → frame.voice.position ≡ 0

  -- "spends a silent frame dequeuing, or switches off": it produces nothing, and the voice is switched off exactly if nothing is queued
  pub record Spent : Type 0 where
    pub none_produced : frame.produced ≡ 0
    pub dequeuing : (v.queued ≡ 0 → ⊥) → (frame.dequeues ≡ 1) × (frame.voice.enabled ≡ v.enabled)
    pub off : v.queued ≡ 0 → (frame.dequeues ≡ 0) × (frame.voice.enabled ≡ false)

  -- The count of dequeues counts: with none, nothing that a dequeue sets has changed; from a queue in which nothing loops each took one.
  pub record Counted : Type 0 where
    pub none : frame.dequeues ≡ 0 → entries_of frame.voice frame.lane ≡ entries_of v lane
    pub each :
        v.queued ≤ length v.queue
        → some (λ e. e.looping) (queued_in v) ≡ false
        → frame.voice.queued + frame.dequeues ≡ v.queued

  -- "Samples past the produced count are 0", and no more than a frame's are produced
  pub record PastSilent : Type 0 where
    pub most : frame.produced ≤ FRAME_SAMPLES
    pub past : drop (frame.produced * 2) frame.voice.frame ≡ replicate (FRAME - frame.produced * 2) (pos 0)

  -- "the last frame it played ended exactly as its entry did": all of its samples were produced, and nothing remains
  abbrev pub RanOut : Type 0
  RanOut = frame.voice.ran_out_at_frame_end ≡ true ↔ ((frame.produced ≡ FRAME_SAMPLES) × (frame.voice.remaining ≡ 0))

abbrev pub PositionsKept : Type 0
PositionsKept = (window : List ℕ) (base : ℕ) (v : Voice) (lane : List ℤ) → Positioned window base v lane

abbrev pub SilentFrames : Type 0
SilentFrames = (window : List ℕ) (base : ℕ) (v : Voice) (lane : List ℤ) → is_silent v ≡ true → Spent window base v lane

-- no more entries are dequeued in a frame than it has samples
abbrev pub AtMost160 : Type 0
AtMost160 = (window : List ℕ) (base : ℕ) (v : Voice) (lane : List ℤ) → (played window base v lane).dequeues ≤ FRAME_SAMPLES

abbrev pub DequeuesCounted : Type 0
DequeuesCounted = (window : List ℕ) (base : ℕ) (v : Voice) (lane : List ℤ) → Counted window base v lane

abbrev pub SilentPast : Type 0
SilentPast = (window : List ℕ) (base : ℕ) (v : Voice) (lane : List ℤ) → PastSilent window base v lane

-- ---- "It follows on when the last frame it played ended exactly as its entry did and an entry is queued"

abbrev pub FollowsOnExactly : Type 0
FollowsOnExactly = (v : Voice) → follows_on v ≡ true ↔ ((v.ran_out_at_frame_end ≡ true) × (0 < v.queued))

abbrev pub RanOutExactly : Type 0
RanOutExactly = (window : List ℕ) (base : ℕ) (v : Voice) (lane : List ℤ) → RanOut window base v lane

-- ---- "Decoding ADPCM as it plays: bytes changed after the dequeue must not be heard"

-- A frame that plays an ADPCM entry and dequeues none is the same in every window, whatever bytes stand there.
abbrev pub DecodedOnce : Type 0
DecodedOnce =
    (window other : List ℕ) (base there : ℕ) (v : Voice) (lane : List ℤ)
    → v.playing.format ≡ Adpcm
    → is_silent v ≡ false
    → (played window base v lane).dequeues ≡ 0
    → played window base v lane ≡ played other there v lane

-- ---- what a frame keeps

-- what only a configuration sets; playing leaves it alone
pub record Settings : Type 0 where
  pub sync_count : ℕ
  pub rate : Float
  pub format : Format
  pub interpolation : Interpolation
  pub stereo : Bool
  pub filters : Filters
  pub gain : List Float
  pub has_ramp : List Bool
  pub ramp : List Float
  pub coefficients : List ℤ

abbrev pub settings_of : Voice → Settings
settings_of v = record {
  sync_count = v.sync_count;
  rate = v.rate;
  format = v.format;
  interpolation = v.interpolation;
  stereo = v.stereo;
  filters = v.filters;
  gain = v.gain;
  has_ramp = v.has_ramp;
  ramp = v.ramp;
  coefficients = v.coefficients;
}

abbrev pub SettingsLeft : Type 0
SettingsLeft = (window : List ℕ) (base : ℕ) (v : Voice) (lane : List ℤ) → settings_of (played window base v lane).voice ≡ settings_of v

-- a record with its arrays that is not "malformed" is not so after a frame either
abbrev pub KeepsFormed : Type 0
KeepsFormed =
    (window : List ℕ) (base : ℕ) (v : Voice) (lane : List ℤ)
    → malformed (length lane) v ≡ false
    → sized v ≡ true
    → malformed (length lane) (played window base v lane).voice ≡ false

-- its arrays are as long as before
abbrev pub KeepsSized : Type 0
KeepsSized =
    (window : List ℕ) (base : ℕ) (v : Voice) (lane : List ℤ)
    → malformed (length lane) v ≡ false
    → sized v ≡ true
    → sized (played window base v lane).voice ≡ true

-- and so is the lane
abbrev pub KeepsLane : Type 0
KeepsLane =
    (window : List ℕ) (base : ℕ) (v : Voice) (lane : List ℤ)
    → malformed (length lane) v ≡ false
    → sized v ≡ true
    → length (played window base v lane).lane ≡ length lane

-- its fields hold values of their types again, and the lane samples, where the window holds bytes
pub record Ranged (f : Frame) : Type 0 where
  pub voice : in_range f.voice ≡ true
  pub lane : every (signed 16) f.lane ≡ true

abbrev pub KeepsRange : Type 0
KeepsRange =
    (window : List ℕ) (base : ℕ) (v : Voice) (lane : List ℤ)
    → every is_byte window ≡ true
    → every (signed 16) lane ≡ true
    → in_range v ≡ true
    → Ranged (played window base v lane)
