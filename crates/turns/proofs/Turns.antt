-- One turn over the slice is one voice served: what it leaves, what it adds, and what is carried on. By cases of the voice's answer.
-- Assumes nothing.
use mathlib.Core.Path.{◌≡◌, refl}
use mathlib.Core.Bool.{Bool, not}
use mathlib.Core.List.{List}
use Prim.Native.Nat.{ℕ}
use lib.ListN.{length, set, get_or}
use lib.Seq.{set-get_or}
use Rattle.layout.specs.declared.Layout.{Layout}
use Rattle.voice.specs.Blank.{default_voice}
use Rattle.voice_frame.specs.VoiceFrame.{Answer, served, refused, number_of, voice_after, mixes_after}
use Rattle.stems.specs.Call.{fed_in, answer, put, serve}
use Rattle.stems.specs.Memory.{Memory, lane_length, record_of}
use Rattle.stems.specs.Inner.{LongAs}
use Rattle.stems.specs.declared.Fixed.{Fixed}
use Rattle.calls.specs.Refused.{refused_after}
use Rattle.voice_turn.specs.Turn.{answer_to, region_by, lanes_with, record_by, region0_by, region1_by, lanes_by, mixes_by}
use Rattle.turns.specs.Turns.{State, serve_one, LongAt}

-- what an answer leaves in memory, thing by thing
put_is : (l : Layout) (second : Bool) (i : ℕ) (x : Answer) (m : Memory)
    → record {
      region0 = region_by l i x (not second) m.region0;
      region1 = region_by l i x second m.region1;
      window = m.window;
      records = set m.records i (voice_after x (get_or m.records i default_voice));
      lanes = lanes_with i x m.lanes;
    }
    ≡ put l second i x m
unfolding put region_by lanes_with
put_is l second i (served g) m = refl
put_is l second i (refused n) m = λ j. record {
  region0 = m.region0;
  region1 = m.region1;
  window = m.window;
  records = set-get_or m.records i default_voice j;
  lanes = m.lanes;
}

module _ (fx : Fixed) (w : List ℕ) where
  abbrev pub memory_of : State → Memory
  memory_of s = record { region0 = s.region0; region1 = s.region1; window = w; records = s.voices; lanes = s.lanes }

  module _ (second : Bool) (i : ℕ) (s : State) where
    abbrev got : Answer
    got = answer fx second i (memory_of s)

    pub turn_memory : memory_of (serve_one fx w second i s) ≡ serve fx second i (memory_of s)
    unfolding serve answer fed_in record_of answer_to record_by region0_by region1_by lanes_by
    turn_memory = put_is fx.layout second i got (memory_of s)

    pub turn_mixes : (serve_one fx w second i s).mixes ≡ mixes_after got s.mixes
    unfolding answer fed_in record_of answer_to mixes_by
    turn_mixes = refl

    pub turn_carried :
        (serve_one fx w second i s).refused ≡ refused_after i (number_of got) s.refused
    unfolding answer fed_in record_of answer_to record_by
    turn_carried = refl

    pub turn_long : LongAt fx w second i s → LongAs (lane_length (length s.lanes)) got
    unfolding answer fed_in record_of answer_to
    turn_long h = h
