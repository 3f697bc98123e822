-- One voice's frame in memory, voices served in turn, and the numbers of the two calls. What a call for all voices leaves, whatever its
-- order, is in Whole.antt, and what a call for one voice alone leaves in Alone.antt. Assumes nothing: these are definitions.
use Rattle.std.specs.Prelude.{ℕ, zero, suc, ◌*◌, Bool, true, false, not, ◌||◌, cond, List, [], ◌∷◌, ◌++◌, eqb, ltb, ℤ, pos, ◌+ℤ◌, length}
use Rattle.std.specs.Prelude.{get_or, set, replicate}
use Rattle.lists.specs.Lowest.{rule, lowest}
use Rattle.lists.specs.Some.{some}
use Rattle.lists.specs.Splice.{splice}
use Rattle.numbers.specs.Sizes.{MIXES}
use Rattle.little.specs.Little.{at16}
use Rattle.layout.specs.Places.{layout_number}
use Rattle.layout.specs.declared.Layout.{Layout}
use Rattle.window.specs.Window.{window_number}
use Rattle.region.specs.Choice.{chosen}
use Rattle.voice.specs.Malformed.{malformed}
use Rattle.voice.specs.declared.record.Voice.{Voice}
use Rattle.voice_frame.specs.VoiceFrame.{Fed, fed, Given, Answer, served, refused, voice_frame, number_of, mixes_after}
use Rattle.stems.specs.declared.Fixed.{Fixed}
use Rattle.stems.specs.Memory.{VOICES, Memory, Lent, lane_length, lane_at, lane_of, record_of}
use Rattle.stems.specs.Memory.{itsConfiguration, itsStatus, itsCoefficients, place_of, bytes_of}

-- ---- one voice's frame in memory

-- region 1 is read, by the two frame counters, and not region 0
unfoldable pub second_read : Layout → Memory → Bool
second_read l m = eqb (chosen (at16 m.region0 l.frame_counter) (at16 m.region1 l.frame_counter)) 1

-- "v's frame is fed v's record and lane, the region choice, v's configuration and coefficients in that region, the window and its base"
abbrev pub fed_with : Fixed → Bool → ℕ → Voice → List ℕ → List ℕ → List ℕ → List ℤ → Fed
fed_with fx second v r region0 region1 window lanes =
    let read = cond second region1 region0 in
    fed r (lane_of v lanes) (bytes_of fx.layout v itsConfiguration read) (bytes_of fx.layout v itsCoefficients read) window fx.base

unfoldable pub fed_in : Fixed → Bool → ℕ → Memory → Fed
fed_in fx second v m = fed_with fx second v (record_of v m.records) m.region0 m.region1 m.window m.lanes

unfoldable pub answer : Fixed → Bool → ℕ → Memory → Answer
answer fx second v m = voice_frame (fed_in fx second v m)

-- A region with what a served voice writes there: its configuration in the region that is read, its status in the other
unfoldable pub written : Layout → ℕ → Given → Bool → List ℕ → List ℕ
written l v g true region = splice region (place_of l v itsConfiguration).at g.configuration
written l v g false region = splice region (place_of l v itsStatus).at g.status

-- what an answer leaves in memory: "Refused, all stays"
unfoldable pub put : Layout → Bool → ℕ → Answer → Memory → Memory
put l second v (refused n) m = m
put l second v (served g) m = record {
  region0 = written l v g (not second) m.region0;
  region1 = written l v g second m.region1;
  window = m.window;
  records = set m.records v g.voice;
  lanes = splice m.lanes (lane_at v m.lanes) g.lane;
}

unfoldable pub serve : Fixed → Bool → ℕ → Memory → Memory
serve fx second v m = put fx.layout second v (answer fx second v m) m

-- what the voice adds to mix value i: "Refused, all stays and v adds 0 to every mix value"
unfoldable pub adds : Answer → ℕ → ℤ
adds (served g) i = get_or g.parts i (pos 0)
adds (refused n) i = pos 0

-- ---- sums over voices

-- f 0 + f 1 + .. + f (n - 1)
unfoldable pub sum_of : ℕ → (ℕ → ℤ) → ℤ
sum_of zero f = pos 0
sum_of (suc n) f = f n +ℤ sum_of n f

-- ---- voices served in turn, each in the memory that the one before it left

unfoldable pub serve_all : Fixed → Bool → List ℕ → Memory → Memory
serve_all fx second [] m = m
serve_all fx second (v ∷ vs) m = serve_all fx second vs (serve fx second v m)

unfoldable pub mixes_in : Fixed → Bool → List ℕ → Memory → List ℤ → List ℤ
mixes_in fx second [] m mixes = mixes
mixes_in fx second (v ∷ vs) m mixes = mixes_in fx second vs (serve fx second v m) (mixes_after (answer fx second v m) mixes)

-- "refused voices come as a list of voice and number"
pub record Refusal : Type 0 where
  pub voice : ℕ
  pub number : ℕ

-- a voice is listed unless its number is 0
unfoldable pub noted : ℕ → ℕ → List Refusal → List Refusal
noted v zero rs = rs
noted v (suc n) rs = record { voice = v; number = suc n } ∷ rs

unfoldable pub refusals_in : Fixed → Bool → List ℕ → Memory → List Refusal
refusals_in fx second [] m = []
refusals_in fx second (v ∷ vs) m = noted v (number_of (answer fx second v m)) (refusals_in fx second vs (serve fx second v m))

-- the number that the list has for a voice, "else 0"
unfoldable pub number_in : ℕ → List Refusal → ℕ
number_in v [] = 0
number_in v (r ∷ rs) = cond (eqb v r.voice) r.number (number_in v rs)

-- ---- the numbers of a whole call

-- how much of each thing is lent
pub record Lengths : Type 0 where
  pub region0 : ℕ
  pub region1 : ℕ
  pub window : ℕ
  pub records : ℕ
  pub lanes : ℕ

unfoldable pub lengths : Memory → Lengths
lengths m = record {
  region0 = length m.region0;
  region1 = length m.region1;
  window = length m.window;
  records = length m.records;
  lanes = length m.lanes;
}

-- a number, or the next one where it is 0: "The lowest number that applies is returned"
abbrev pub or_else : ℕ → ℕ → ℕ
or_else zero next = next
or_else (suc n) next = suc n

-- 5: "records are not 24, or lanes not 24 times L with L from 0 to 65,536"
abbrev pub wrong_voices : ℕ → ℕ → Bool
wrong_voices records lanes =
    not (eqb records VOICES) || (not (eqb lanes (VOICES * lane_length lanes)) || ltb 65536 (lane_length lanes))

-- 1 to 6, which the lengths decide: 1, 2 and 3 of the layout, 4 of the window, 5, and 6 where the mixes are not 1,920 numbers
unfoldable pub lengths_number : Fixed → Lengths → ℕ → ℕ
lengths_number fx s mixes =
    or_else (layout_number s.region0 s.region1 fx.layout)
    (or_else (window_number fx.base s.window)
    (lowest (rule (wrong_voices s.records s.lanes) 5 ∷ rule (not (eqb mixes MIXES)) 6 ∷ [])))

-- and 7: "a record is malformed". "Voices test 1 to 7"
unfoldable pub whole_number : Fixed → Lent → ℕ
whole_number fx x =
    let m = x.memory in
    or_else (lengths_number fx (lengths m) (length x.mixes))
    (cond (some (malformed (lane_length (length m.lanes))) m.records) 7 0)

-- "one voice alone also 10": "voice number over 23"
unfoldable pub alone_number : Fixed → ℕ → Lent → ℕ
alone_number fx v x = or_else (whole_number fx x) (cond (ltb 23 v) 10 0)

-- ---- a call that serves voices in turn

-- what a call gives back, and what it leaves
pub record Outcome : Type 0 where
  pub code : ℕ
  pub refusals : List Refusal
  pub left : Lent

-- "Mix sums wrap and start from 0 in each call"
unfoldable pub no_mixes : List ℤ
no_mixes = replicate MIXES (pos 0)

-- a call with this number: 0, then it serves the voices of a list in turn; another, then there is "nothing written"
unfoldable pub called : ℕ → Fixed → List ℕ → Lent → Outcome
called zero fx vs x = record {
  code = 0;
  refusals = refusals_in fx (second_read fx.layout x.memory) vs x.memory;
  left = record {
    memory = serve_all fx (second_read fx.layout x.memory) vs x.memory;
    mixes = mixes_in fx (second_read fx.layout x.memory) vs x.memory no_mixes;
  };
}
called (suc n) fx vs x = record { code = suc n; refusals = []; left = x }

-- 0, 1, .., n - 1
unfoldable pub up_to : ℕ → List ℕ
up_to zero = []
up_to (suc n) = up_to n ++ (n ∷ [])

-- the voices
abbrev pub all_voices : List ℕ
all_voices = up_to VOICES
