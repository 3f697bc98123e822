-- Where the samples of an entry lie: PCM in one part of the window, ADPCM in the lane; and the sample that a voice produces from them. Only
-- the contracts of quick functions cite these; `ready_sound` of proofs/Ready.antt proves that they say what track's definitions say.
-- Assumes nothing: these are definitions.
use Rattle.std.specs.Prelude.{Bool, true, false, ◌&&◌, ◌||◌, not, cond, List, [], ◌≡◌, ℕ, ◌+◌, ◌-◌, ◌*◌, ◌^◌, eqb, ltb, leb, ℤ, pos}
use Rattle.std.specs.Prelude.{length, get_or, Float, Option, None, Some}
use Rattle.std.specs.Float.Ieee.{eq}
use Rattle.numbers.specs.Literals.{+0}
use Rattle.numbers.specs.Wrap.{signed16}
use Rattle.little.specs.Little.{at16}
use Rattle.window.specs.Window.{look_up}
use Rattle.voice.specs.Long.{is_adpcm}
use Rattle.voice.specs.declared.record.Entry.{Entry}
use Rattle.voice.specs.declared.record.Format.{Format}
use Rattle.voice.specs.declared.record.Format.TheVariants.{Pcm8, Pcm16, Adpcm}
use Rattle.dequeue.specs.Dequeue.{aligned}
use Rattle.samples.specs.Samples.{stereo_sample, both, high_byte}
use Rattle.samples.specs.declared.Sample.{Sample}
use Rattle.steps.specs.declared.step.Cursor.{Cursor}
use Rattle.track.specs.Track.{between_samples}
use Rattle.track.specs.declared.Track.{Track}

-- the bytes of a PCM sample, and for ADPCM one value of the lane
abbrev pub size8 : Bool → ℕ
size8 stereo = cond stereo 2 1

abbrev pub size16 : Bool → ℕ
size16 stereo = cond stereo 4 2

abbrev pub size_by : Format → Bool → ℕ
size_by Pcm8 stereo = size8 stereo
size_by Pcm16 stereo = size16 stereo
size_by Adpcm stereo = 1

unfoldable pub size_of : Entry → ℕ
size_of e = size_by e.format e.stereo

-- how many of them there are
abbrev pub held_by : List ℤ → List ℕ → Format → ℕ
held_by lane bytes Pcm8 = length bytes
held_by lane bytes Pcm16 = length bytes
held_by lane bytes Adpcm = length lane

-- the sample at a place, of values one after the other: in stereo two for each place, the left one first
abbrev pub valued_in : (ℕ → ℤ) → Bool → ℕ → Sample
valued_in value stereo place = cond stereo (stereo_sample (value (place * 2)) (value (place * 2 + 1))) (both (value place))

-- the sample at a place
abbrev pub pcm8_in : List ℕ → Bool → ℕ → Sample
pcm8_in bytes stereo place =
    cond stereo (stereo_sample (high_byte (get_or bytes (place * 2) 0)) (high_byte (get_or bytes (place * 2 + 1) 0)))
    (both (high_byte (get_or bytes place 0)))

abbrev pub pcm16_in : List ℕ → Bool → ℕ → Sample
pcm16_in bytes stereo place =
    cond stereo (stereo_sample (signed16 (at16 bytes (place * 4))) (signed16 (at16 bytes (place * 4 + 2))))
    (both (signed16 (at16 bytes (place * 2))))

abbrev pub sample_by : List ℤ → List ℕ → Format → Bool → ℕ → Sample
sample_by lane bytes Pcm8 stereo place = pcm8_in bytes stereo place
sample_by lane bytes Pcm16 stereo place = pcm16_in bytes stereo place
sample_by lane bytes Adpcm stereo place = both (get_or lane place (pos 0))

unfoldable pub sample_in : List ℤ → List ℕ → Entry → ℕ → Sample
sample_in lane bytes e place = sample_by lane bytes e.format e.stereo place

-- both sides of each sample are alike
unfoldable pub is_mono : Entry → Bool
is_mono e = not e.stereo || is_adpcm e.format

-- the bytes of a PCM entry by one look-up, or none where they reach past the last address
unfoldable pub entry_bytes : List ℕ → ℕ → Entry → List ℕ
entry_bytes window base e =
    cond (ltb (aligned e.address + e.length * size_of e) (2 ^ 32)) (look_up window base (aligned e.address) (e.length * size_of e)) []

-- every sample of an entry was decoded, of so many, or has its bytes in the window
unfoldable pub is_held : List ℕ → ℕ → Entry → Bool
is_held bytes decoded e = cond (is_adpcm e.format) (leb e.length decoded) (ltb 0 (length bytes))

-- an entry plays, the record's length is its own, and every sample of it is at hand, in these bytes or in the lane
pub record AtHand (window : List ℕ) (base : ℕ) (t : Track) (bytes : List ℕ) (e : Entry) : Type 0 where
  pub playing : t.playing ≡ Some e
  pub whole : e.length ≡ t.length
  pub bytes_are : bytes ≡ entry_bytes window base e
  pub held : is_held bytes t.decoded e ≡ true

-- whether there is such an entry: one plays, it is as long as the record says, two samples remain, and every sample is at hand
abbrev pub at_hand_by : List ℕ → ℕ → Track → Cursor → Option Entry → Bool
at_hand_by window base t c None = false
at_hand_by window base t c (Some e) =
    eqb e.length t.length && (leb 2 c.remaining && is_held (entry_bytes window base e) t.decoded e)

unfoldable pub is_at_hand : List ℕ → ℕ → Track → Cursor → Bool
is_at_hand window base t c = at_hand_by window base t c t.playing

-- the sample so far past a place, where samples are taken as they are or not
unfoldable pub sound_by : (ℕ → Sample) → Bool → ℕ → Float → Sample
sound_by heard plain place fraction =
    cond (plain || eq fraction +0) (heard place) (between_samples (heard place) (heard (place + 1)) fraction)

-- the sample that is produced where playing is
abbrev pub sound_in : List ℤ → List ℕ → Entry → Track → Cursor → Sample
sound_in lane bytes e t c = sound_by (sample_in lane bytes e) t.plain (t.length - c.remaining) c.fraction
