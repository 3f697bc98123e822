-- What one voice's turn makes of each thing that is lent. Inner definitions: the call's contract does not name them. Assumes nothing: these
-- are definitions.
use Rattle.std.specs.Prelude.{◌≡◌, ℕ, ◌+◌, ◌*◌, ◌≤◌, Bool, not, List, ℤ}
use Rattle.lists.specs.Splice.{splice}
use Rattle.fields.specs.Fields.{configuration, status, total}
use Rattle.numbers.specs.Sizes.{MIXES}
use Rattle.layout.specs.declared.Layout.{Layout}
use Rattle.adpcm.specs.Sizes.{most_samples}
use Rattle.settings.specs.Steps.{coefficient_bytes}
use Rattle.voice.specs.declared.record.Voice.{Voice}
use Rattle.voice_frame.specs.VoiceFrame.{Answer, served, refused, voice_frame, voice_after, mixes_after}
use Rattle.stems.specs.Memory.{lane_length, lane_at}
use Rattle.stems.specs.Call.{fed_with, written}
use Rattle.stems.specs.declared.Fixed.{Fixed}

-- ---- one voice's turn

-- voice i's own lies in a region read and in the other one of so many bytes, and in so many samples of lanes; the mixes are all there
pub record Room (l : Layout) (i read other lanes mixes : ℕ) : Type 0 where
  pub coefficients : l.coefficients + coefficient_bytes * i + coefficient_bytes ≤ read
  pub configuration : l.configurations + total configuration * i + total configuration ≤ read
  pub status : l.statuses + total status * i + total status ≤ other
  pub lane : i * lane_length lanes + lane_length lanes ≤ lanes
  pub short : lane_length lanes ≤ most_samples
  pub all : mixes ≡ MIXES

-- what voice i with this record is answered
unfoldable pub answer_to : Fixed → Bool → ℕ → Voice → List ℕ → List ℕ → List ℕ → List ℤ → Answer
answer_to fx second i v region0 region1 window lanes = voice_frame (fed_with fx second i v region0 region1 window lanes)

-- a region after an answer, where it is read or not: "Refused, all stays"
unfoldable pub region_by : Layout → ℕ → Answer → Bool → List ℕ → List ℕ
region_by l i (served g) read region = written l i g read region
region_by l i (refused n) read region = region

unfoldable pub lanes_with : ℕ → Answer → List ℤ → List ℤ
lanes_with i (served g) lanes = splice lanes (lane_at i lanes) g.lane
lanes_with i (refused n) lanes = lanes

module _
    (v : Voice) (i : ℕ) (second : Bool) (fx : Fixed) (region0 region1 window : List ℕ) (lanes mixes : List ℤ) where
  abbrev pub answered : Answer
  answered = answer_to fx second i v region0 region1 window lanes

  unfoldable pub record_by : Voice
  record_by = voice_after answered v

  unfoldable pub region0_by : List ℕ
  region0_by = region_by fx.layout i answered (not second) region0

  unfoldable pub region1_by : List ℕ
  region1_by = region_by fx.layout i answered second region1

  unfoldable pub lanes_by : List ℤ
  lanes_by = lanes_with i answered lanes

  unfoldable pub mixes_by : List ℤ
  mixes_by = mixes_after answered mixes
