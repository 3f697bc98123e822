-- One voice's turn as it changes all that is lent. Inner definitions: what the calls do does not name them (`Whole` and `Alone` of stems).
-- Assumes nothing: these are definitions.
use Rattle.std.specs.Prelude.{ℕ, Bool, List, [], ℤ, length, set, get_or}
use Rattle.voice.specs.Blank.{default_voice}
use Rattle.voice.specs.declared.record.Voice.{Voice}
use Rattle.stems.specs.Memory.{lane_length}
use Rattle.stems.specs.declared.Fixed.{Fixed}
use Rattle.stems.specs.Inner.{LongAs}
use Rattle.voice_turn.specs.Turn.{answer_to, record_by, region0_by, region1_by, lanes_by, mixes_by}
use Rattle.calls.specs.Refused.{refused_after}
use Rattle.voice_frame.specs.VoiceFrame.{number_of}
use Rattle.stems.specs.Call.{Refusal, no_mixes}

-- ---- a turn

-- all that changes while the voices are served, and the voices refused so far
pub record State : Type 0 where
  pub voices : List Voice
  pub region0 : List ℕ
  pub region1 : List ℕ
  pub lanes : List ℤ
  pub mixes : List ℤ
  pub refused : List Refusal

-- what a call begins with: what it is lent, no mix value and no voice refused
abbrev pub beginning : List Voice → List ℕ → List ℕ → List ℤ → State
beginning voices region0 region1 lanes = record {
  voices = voices;
  region0 = region0;
  region1 = region1;
  lanes = lanes;
  mixes = no_mixes;
  refused = [];
}

-- voice i has its turn, where region 1 is read or not
abbrev pub serve_one : Fixed → List ℕ → Bool → ℕ → State → State
serve_one fx w second i s =
    let v = get_or s.voices i default_voice in
    record {
      voices = set s.voices i (record_by v i second fx s.region0 s.region1 w s.lanes s.mixes);
      region0 = region0_by v i second fx s.region0 s.region1 w s.lanes s.mixes;
      region1 = region1_by v i second fx s.region0 s.region1 w s.lanes s.mixes;
      lanes = lanes_by v i second fx s.region0 s.region1 w s.lanes s.mixes;
      mixes = mixes_by v i second fx s.region0 s.region1 w s.lanes s.mixes;
      refused = refused_after i (number_of (answer_to fx second i v s.region0 s.region1 w s.lanes)) s.refused;
    }

-- voice j's answer is as long as what it is put over
abbrev pub LongAt : Fixed → List ℕ → Bool → ℕ → State → Type 0
LongAt fx w second j s =
    LongAs (lane_length (length s.lanes))
    (answer_to fx second j (get_or s.voices j default_voice) s.region0 s.region1 w s.lanes)
