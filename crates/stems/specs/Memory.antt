-- What a call for voices is lent, and where in it each voice's own lies. Assumes nothing: these are definitions.
use Rattle.std.specs.Prelude.{◌≡◌, ℕ, ◌+◌, ◌*◌, ◌/◌, true, List, ℤ, length, get_or}
use Rattle.lists.specs.Some.{every}
use Rattle.lists.specs.Splice.{part}
use Rattle.fields.specs.Fields.{configuration, status, total}
use Rattle.layout.specs.Places.{place}
use Rattle.layout.specs.declared.Layout.{Layout}
use Rattle.layout.specs.declared.Place.{Place}
use Rattle.settings.specs.Steps.{coefficient_bytes}
use Rattle.voice.specs.Blank.{default_voice}
use Rattle.voice.specs.Range.{is_byte, signed, in_range, sized}
use Rattle.voice.specs.declared.record.Voice.{Voice}

-- how many voices there are
abbrev pub VOICES : ℕ
VOICES = 24

-- ---- what is lent

-- what is lent beside the mix buffer: the two regions, the window, the voices' records and their lanes
pub record Memory : Type 0 where
  pub region0 : List ℕ
  pub region1 : List ℕ
  pub window : List ℕ
  pub records : List Voice
  pub lanes : List ℤ

pub record Lent : Type 0 where
  pub memory : Memory
  pub mixes : List ℤ

-- what the types of lent memory say: bytes, records with numbers and arrays of their types, and samples of 16 bits
pub record Typed (m : Memory) : Type 0 where
  pub region0 : every is_byte m.region0 ≡ true
  pub region1 : every is_byte m.region1 ≡ true
  pub window : every is_byte m.window ≡ true
  pub arrays : every sized m.records ≡ true
  pub records : every in_range m.records ≡ true
  pub lanes : every (signed 16) m.lanes ≡ true

-- ---- a voice's own

-- L, by how many samples the lanes have together: they are "24 times L"
unfoldable pub lane_length : ℕ → ℕ
lane_length samples = samples / VOICES

-- where the lane of voice v begins
unfoldable pub lane_at : ℕ → List ℤ → ℕ
lane_at v lanes = v * lane_length (length lanes)

-- its whole lane
unfoldable pub lane_of : ℕ → List ℤ → List ℤ
lane_of v lanes = part (lane_at v lanes) (lane_length (length lanes)) lanes

-- its record; the default stands past the last record, where no voice is
unfoldable pub record_of : ℕ → List Voice → Voice
record_of v records = get_or records v default_voice

-- what a voice's frame reads or writes in a region
pub data Kind : Type 0 where
  itsConfiguration itsStatus itsCoefficients theCounter : Kind

-- where that lies for voice v: "24 of 192", "24 of 12", "24 of 32"; the frame counter is the same for all
unfoldable pub place_of : Layout → ℕ → Kind → Place
place_of l v itsConfiguration = place (l.configurations + total configuration * v) (total configuration)
place_of l v itsStatus = place (l.statuses + total status * v) (total status)
place_of l v itsCoefficients = place (l.coefficients + coefficient_bytes * v) coefficient_bytes
place_of l v theCounter = place l.frame_counter 2

-- v's bytes of a kind in a region
unfoldable pub bytes_of : Layout → ℕ → Kind → List ℕ → List ℕ
bytes_of l v kind region = part (place_of l v kind).at (place_of l v kind).size region

-- two memories hold the same for voice v: "its record, whole lane, configuration and status bytes in both regions"
pub record Alike (l : Layout) (v : ℕ) (a b : Memory) : Type 0 where
  pub voice : record_of v a.records ≡ record_of v b.records
  pub lane : lane_of v a.lanes ≡ lane_of v b.lanes
  pub configuration0 : bytes_of l v itsConfiguration a.region0 ≡ bytes_of l v itsConfiguration b.region0
  pub configuration1 : bytes_of l v itsConfiguration a.region1 ≡ bytes_of l v itsConfiguration b.region1
  pub status0 : bytes_of l v itsStatus a.region0 ≡ bytes_of l v itsStatus b.region0
  pub status1 : bytes_of l v itsStatus a.region1 ≡ bytes_of l v itsStatus b.region1
