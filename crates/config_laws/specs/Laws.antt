-- What document 01 says of a voice's configuration as a whole. Assumes nothing: these are statements.
use Rattle.std.specs.Prelude.{ℕ, ◌+◌, ◌≤◌, ◌<◌, Bool, true, false, ◌||◌, cond, ◌↔◌, ◌≡◌, length, take, get_or}
use mathlib.Core.List.{List, [], ◌∷◌, ◌++◌, Memᴰ}
use Rattle.lists.specs.Some.{every}
use Rattle.little.specs.Little.{at16}
use Rattle.fields.specs.Fields.{configuration, offset_of, size_of, total}
use Rattle.voice.specs.Blank.{limit}
use Rattle.voice.specs.Long.{too_long}
use Rattle.voice.specs.Malformed.{queued_in, malformed}
use Rattle.voice.specs.Range.{is_byte, in_range, sized}
use Rattle.voice.specs.declared.record.Entry.{Entry}
use Rattle.voice.specs.declared.record.Format.{Format}
use Rattle.voice.specs.declared.record.Format.TheVariants.{Pcm16, Adpcm}
use Rattle.voice.specs.declared.record.Voice.{Voice}
use Rattle.settings.specs.Dirty.{dirty_in, flag, FORMAT, MONO_OR_STEREO, PARTIAL_RESET, BUFFER_QUEUE, RESET, EMBEDDED_BUFFER}
use Rattle.settings.specs.Steps.{format_in, stereo_in}
use Rattle.entries.specs.Entries.{added}
use Rattle.config.specs.Parsed.{steps, to_add, parsed, configured, bytes_after}
use Rattle.queueing.specs.Queue.{pushed}

-- ---- "that voice untouched": with a number that is not 0, the record and the configuration's bytes stay as they were

pub record Untouched (bytes coefficients : List ℕ) (v : Voice) (L : ℕ) : Type 0 where
  pub record_stays : (configured bytes coefficients v L).voice ≡ v
  pub bytes_stay : bytes_after bytes coefficients v L ≡ bytes

abbrev pub RefusedUntouched : Type 0
RefusedUntouched =
    (bytes coefficients : List ℕ) (v : Voice) (L : ℕ)
    → ((configured bytes coefficients v L).number ≡ 0 → ⊥)
    → Untouched bytes coefficients v L

-- ---- "The dirty word is then 0; the slot mask only if BUFFER_QUEUE was set": of a voice that is served, and every other byte stays

abbrev pub mask_at : ℕ
mask_at = offset_of configuration "BUFFERS_DIRTY"

pub record Cleared (before after : List ℕ) : Type 0 where
  pub dirty : dirty_in after ≡ 0
  pub mask : at16 after mask_at ≡ cond (flag before BUFFER_QUEUE) 0 (at16 before mask_at)
  pub before_mask : (k : ℕ) → size_of configuration "DIRTY" ≤ k → k < mask_at → get_or after k 0 ≡ get_or before k 0
  pub past_mask : (k : ℕ) → mask_at + size_of configuration "BUFFERS_DIRTY" ≤ k → get_or after k 0 ≡ get_or before k 0

abbrev pub ServedCleared : Type 0
ServedCleared =
    (bytes coefficients : List ℕ) (v : Voice) (L : ℕ)
    → length bytes ≡ total configuration
    → (configured bytes coefficients v L).number ≡ 0
    → Cleared bytes (bytes_after bytes coefficients v L)

-- ---- "A zero dirty word does nothing": the number is 0, the record and the bytes stay; and no step, no entry would have changed it

pub record Unchanged (bytes coefficients : List ℕ) (v : Voice) (L : ℕ) : Type 0 where
  pub served : configured bytes coefficients v L ≡ record { number = 0; voice = v }
  pub bytes_stay : bytes_after bytes coefficients v L ≡ bytes
  pub steps_nothing : parsed bytes coefficients v ≡ v

abbrev pub CleanUnchanged : Type 0
CleanUnchanged = (bytes coefficients : List ℕ) (v : Voice) (L : ℕ) → dirty_in bytes ≡ 0 → Unchanged bytes coefficients v L

-- ---- what each step keeps the whole keeps

-- a step keeps a property of records
abbrev pub Keeps : (Voice → Type 0) → (Voice → Voice) → Type 0
Keeps P step = (v : Voice) → P v → P (step v)

abbrev pub EachKeeps : (Voice → Type 0) → List (Voice → Voice) → Type 0
EachKeeps P [] = Unit {0}
EachKeeps P (step ∷ steps) = Keeps P step × EachKeeps P steps

-- and so does queueing an entry that fits the lane, where there is room for it: then a configuration keeps it, served or refused
abbrev pub WholeKeeps : Type 1
WholeKeeps =
    (P : Voice → Type 0) (bytes coefficients : List ℕ) (v : Voice) (L : ℕ)
    → EachKeeps P (steps bytes coefficients)
    → ((e : Entry) → Memᴰ e (to_add bytes coefficients v) → too_long L e ≡ false
    → (u : Voice) → u.queued < limit → P u → P (pushed e u))
    → P v → P (configured bytes coefficients v L).voice

-- a record that is not "malformed" is not so after its configuration either, whatever numbers stand in it
abbrev pub KeepsFormed : Type 0
KeepsFormed =
    (bytes coefficients : List ℕ) (v : Voice) (L : ℕ)
    → malformed L v ≡ false
    → malformed L (configured bytes coefficients v L).voice ≡ false

-- its arrays are as long as before
abbrev pub KeepsSized : Type 0
KeepsSized = (bytes coefficients : List ℕ) (v : Voice) (L : ℕ) → sized v ≡ true → sized (configured bytes coefficients v L).voice ≡ true

-- and where bytes are read, its fields hold values of their types again
abbrev pub KeepsRange : Type 0
KeepsRange =
    (bytes coefficients : List ℕ) (v : Voice) (L : ℕ)
    → every is_byte bytes ≡ true
    → every is_byte coefficients ≡ true
    → in_range v ≡ true
    → in_range (configured bytes coefficients v L).voice ≡ true

-- ---- what the entries take from the record that the steps before them leave

-- the format: as FLAGS1 says where FORMAT or an embedded entry is flagged, else after RESET the default's, else the record's
abbrev pub format_after : List ℕ → Voice → Format
format_after bytes v =
    cond (flag bytes FORMAT || flag bytes EMBEDDED_BUFFER) (format_in bytes)
    (cond (flag bytes RESET) Pcm16 v.format)

-- the channels, in the same way
abbrev pub stereo_after : List ℕ → Voice → Bool
stereo_after bytes v =
    cond (flag bytes MONO_OR_STEREO || flag bytes EMBEDDED_BUFFER) (stereo_in bytes)
    (cond (flag bytes RESET) false v.stereo)

-- the embedded entry and the slots alike
abbrev pub EntriesTake : Type 0
EntriesTake =
    (bytes coefficients : List ℕ) (v : Voice) → to_add bytes coefficients v ≡ added bytes (format_after bytes v) (stereo_after bytes v)

pub record Taken (bytes : List ℕ) (v : Voice) (e : Entry) : Type 0 where
  pub format : e.format ≡ format_after bytes v
  pub stereo : e.stereo ≡ stereo_after bytes v

abbrev pub EachTakes : Type 0
EachTakes = (bytes coefficients : List ℕ) (v : Voice) (e : Entry) → Memᴰ e (to_add bytes coefficients v) → Taken bytes v e

-- ---- what is queued after, and when 20 and 21 are given

-- how many entries stay queued: "The count for 20 starts after clearing by RESET or PARTIAL_RESET"
abbrev pub kept : List ℕ → Voice → ℕ
kept bytes v = cond (flag bytes RESET || flag bytes PARTIAL_RESET) 0 v.queued

-- of a voice that is served: "Entries keep their order", those that stay first, then those that the flags add
abbrev pub ServedQueue : Type 0
ServedQueue =
    (bytes coefficients : List ℕ) (v : Voice) (L : ℕ)
    → sized v ≡ true
    → (configured bytes coefficients v L).number ≡ 0
    → queued_in (configured bytes coefficients v L).voice ≡ take (kept bytes v) v.queue ++ to_add bytes coefficients v

-- an entry of a list is ADPCM and longer than L
pub record Longer (L : ℕ) (entries : List Entry) : Type 0 where
  pub entry : Entry
  pub among : Memᴰ entry entries
  pub adpcm : entry.format ≡ Adpcm
  pub longer : L < entry.length

-- of a number, where these entries would be added and the queue would then have so many: 20 exactly if "its queue would exceed 64";
-- 21 exactly if it would not, and "an ADPCM entry it would add is longer than L"; 0 exactly if neither
pub record Exactly (number : ℕ) (entries : List Entry) (queued L : ℕ) : Type 0 where
  pub twenty : number ≡ 20 ↔ limit < queued
  pub twenty_one : number ≡ 21 ↔ ((queued ≤ limit) × Longer L entries)
  pub none : number ≡ 0 ↔ ((queued ≤ limit) × (Longer L entries → ⊥))

-- a zero dirty word is not refused, so of that only a record whose queue is not over 64 already is asked
abbrev pub RefusedExactly : Type 0
RefusedExactly =
    (bytes coefficients : List ℕ) (v : Voice) (L : ℕ)
    → (dirty_in bytes ≡ 0 → v.queued ≤ limit)
    → Exactly (configured bytes coefficients v L).number (to_add bytes coefficients v)
    (kept bytes v + length (to_add bytes coefficients v)) L
