-- Whole run and stems: `WholeAndStems` is the claim, and `whole_and_stems` of proofs/Stems.antt proves it. The runs are made of calls as
-- the two contracts have them (Whole.antt, Alone.antt): the claim holds of every outcome that these allow, whatever order a call took.
-- Assumes nothing: these are definitions and statements.
use Rattle.std.specs.Prelude.{◌≡◌, ℕ, zero, suc, ◌<◌, true, List, [], ◌∷◌, ℤ, pos, length, get_or, set}
use Rattle.lists.specs.Some.{every}
use Rattle.numbers.specs.Sizes.{MIXES}
use Rattle.numbers.specs.Wrap.{wrap32}
use Rattle.voice.specs.Range.{is_byte, signed}
use Rattle.voice_frame.specs.VoiceFrame.{Answer, number_of}
use Rattle.stems.specs.declared.Fixed.{Fixed}
use Rattle.stems.specs.Memory.{VOICES, Memory, Lent, Typed, Alike}
use Rattle.stems.specs.Call.{second_read, answer, serve, adds, number_in, whole_number, Outcome, sum_of}
use Rattle.stems.specs.Whole.{AllServed}
use Rattle.stems.specs.Alone.{OneServed}

-- ---- "the recording's writes, inside regions, window and lanes"

-- one byte or sample: where it is written, and what; past the end nothing is written
pub record Write (A : Type 0) : Type 0 where
  pub place : ℕ
  pub value : A

-- what a frame writes into each, one after the other
pub record Frame : Type 0 where
  pub region0 : List (Write ℕ)
  pub region1 : List (Write ℕ)
  pub window : List (Write ℕ)
  pub lanes : List (Write ℤ)

-- a frame that writes nothing: it stands past the last
unfoldable pub still : Frame
still = record { region0 = []; region1 = []; window = []; lanes = [] }

unfoldable pub stored : {A : Type 0} → List A → List (Write A) → List A
stored l [] = l
stored l (w ∷ ws) = stored (set l w.place w.value) ws

-- memory with a frame's writes made
unfoldable pub recorded : Frame → Memory → Memory
recorded f m = record {
  region0 = stored m.region0 f.region0;
  region1 = stored m.region1 f.region1;
  window = stored m.window f.window;
  records = m.records;
  lanes = stored m.lanes f.lanes;
}

-- what is written are bytes and samples
pub record TypedFrame (f : Frame) : Type 0 where
  pub region0 : every (λ w. is_byte w.value) f.region0 ≡ true
  pub region1 : every (λ w. is_byte w.value) f.region1 ≡ true
  pub window : every (λ w. is_byte w.value) f.window ≡ true
  pub lanes : every (λ w. signed 16 w.value) f.lanes ≡ true

-- ---- a run, where `outs k` is what the call of frame k gave

-- what the last call left, and before the first call the start
unfoldable pub before : Lent → (ℕ → Outcome) → ℕ → Lent
before start outs zero = start
before start outs (suc k) = (outs k).left

-- what the call of frame k is lent: "Each frame makes the recording's writes, inside regions, window and lanes, then one call"
unfoldable pub lent : Lent → List Frame → (ℕ → Outcome) → ℕ → Lent
lent start frames outs k = record {
  memory = recorded (get_or frames k still) (before start outs k).memory;
  mixes = (before start outs k).mixes;
}

-- every call of the run is such a call
pub record Run (Call : Lent → Outcome → Type 0) (start : Lent) (frames : List Frame) (outs : ℕ → Outcome) : Type 0 where
  pub calls : (k : ℕ) → k < length frames → Call (lent start frames outs k) (outs k)

-- ---- "what these frames give, taken in turn from the common start with the recording's writes": v's frames, and no other voice's

module _ (fx : Fixed) (v : ℕ) where
  -- what v's frame in a memory gives, and what it leaves there
  unfoldable pub frame_gives : Memory → Answer
  frame_gives m = answer fx (second_read fx.layout m) v m

  unfoldable pub frame_leaves : Memory → Memory
  frame_leaves m = serve fx (second_read fx.layout m) v m

  module _ (start : Memory) (frames : List Frame) where
    -- what its first k frames leave
    unfoldable pub story : ℕ → Memory
    story zero = start
    story (suc k) = frame_leaves (recorded (get_or frames k still) (story k))

    -- the memory in which it has its frame k
    unfoldable pub scene : ℕ → Memory
    scene k = recorded (get_or frames k still) (story k)

    -- what frame k gives
    unfoldable pub gives : ℕ → Answer
    gives k = frame_gives (scene k)

-- ---- the claim

-- value i of a mix buffer
abbrev pub mix_value : ℕ → Outcome → ℤ
mix_value i o = get_or o.left.mixes i (pos 0)

-- The call of frame k returned 0, and after it there is for v what v's frames give: "its record, whole lane, configuration and status bytes
-- in both regions, and refusal number". The mix buffer has its 1,920 values.
pub record Holds (fx : Fixed) (start : Memory) (frames : List Frame) (k v : ℕ) (o : Outcome) : Type 0 where
  pub code : o.code ≡ 0
  pub mixes : length o.left.mixes ≡ MIXES
  pub memory : Alike fx.layout v o.left.memory (story fx v start frames (suc k))
  pub number : number_in v o.refusals ≡ number_of (gives fx v start frames k)

-- The whole run beside the stem runs after frame k.
pub record Compared (fx : Fixed) (start : Memory) (frames : List Frame) (k : ℕ) (whole : Outcome) (stem : ℕ → Outcome) : Type 0 where
  -- "After every frame both runs hold for v what these frames give"; "That every call then returns 0 is part of the claim"
  pub whole_holds : (v : ℕ) → v < VOICES → Holds fx start frames k v whole
  pub stem_holds : (v : ℕ) → v < VOICES → Holds fx start frames k v (stem v)
  -- so the two hold the same for v
  pub memory : (v : ℕ) → v < VOICES → Alike fx.layout v whole.left.memory (stem v).left.memory
  pub number : (v : ℕ) → v < VOICES → number_in v whole.refusals ≡ number_in v (stem v).refusals
  -- "The stem values are the stem run's mix buffer, which holds what v adds"
  pub stem_adds : (v : ℕ) → v < VOICES → (i : ℕ) → i < MIXES → mix_value i (stem v) ≡ adds (gives fx v start frames k) i
  -- each mix value of the whole run is the sum of the 24 stem values modulo 2 ^ 32
  pub sums : (i : ℕ) → i < MIXES → mix_value i whole ≡ wrap32 (sum_of VOICES (λ v. mix_value i (stem v)))

-- One layout and base, one start and one recording for all the runs. The start is of its types and its number is 0: "Well-formed: 7 does
-- not apply; accepted: no other whole-call number does". The recording is any list of frames that write bytes and samples. Then the whole
-- run, whatever order each of its calls took, and the stem runs of the 24 voices compare so after every frame.
pub record WholeAndStems : Type 0 where
  pub holds :
      (fx : Fixed) (start : Lent) → Typed start.memory → whole_number fx start ≡ 0
      → (frames : List Frame) → ((k : ℕ) → k < length frames → TypedFrame (get_or frames k still))
      → (whole : ℕ → Outcome) → Run (AllServed fx) start frames whole
      → (stem : ℕ → ℕ → Outcome) → ((v : ℕ) → v < VOICES → Run (OneServed fx v) start frames (stem v))
      → (k : ℕ) → k < length frames → Compared fx start.memory frames k (whole k) (λ v. stem v k)

-- The claim is not empty: some start is of its types and accepted, and from every start there are such runs for every recording.
pub record RunsExist : Type 0 where
  pub accepted : (fx : Fixed) × (start : Lent) × Typed start.memory × (whole_number fx start ≡ 0)
  pub whole : (fx : Fixed) (start : Lent) (frames : List Frame) → (outs : ℕ → Outcome) × Run (AllServed fx) start frames outs
  pub stem : (fx : Fixed) (v : ℕ) (start : Lent) (frames : List Frame) → (outs : ℕ → Outcome) × Run (OneServed fx v) start frames outs
