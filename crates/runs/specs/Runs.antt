-- Whole run and stems, of what `tick` and `tick_voice` give back and leave: `CallsCompared` is the claim of stems, `WholeAndStems`, with
-- the two contracts in the place of its calls, and `CallsRun` says that there are such runs. Assumes nothing: these are definitions and
-- statements; `as_ensured`, `calls_compared` and `calls_run` of proofs/Runs.antt prove them.
use Rattle.std.specs.Prelude.{◌≡◌, ℕ, ◌<◌, List, Result, length, get_or}
use Rattle.refusals.specs.declared.Refusal.{Refusal}
use Rattle.refusals.specs.Numbers.{number_of}
use Rattle.stems.specs.Call.{Outcome, whole_number, alone_number}
use Rattle.stems.specs.Memory.{VOICES, Lent, Typed}
use Rattle.stems.specs.Stems.{Frame, still, TypedFrame, lent, Compared}
use Rattle.stems.specs.declared.Fixed.{Fixed}
use Rattle.calls.specs.Refused.{given}
use Rattle.calls.specs.declared.refused.Refused.{Refused}
use Rattle.voices.specs.Tick.{left as leftByAll, RefusedBy, Ensured}
use Rattle.alone.specs.TickVoice.{left as leftByOne, refused, Ensured as VoiceEnsured}

-- what a call gives back, and all that was lent to it as it leaves it
pub record Done : Type 0 where
  pub returned : Result Refused Refusal
  pub after : Lent

-- ---- what the contracts say

-- `voices::tick`, lent x
pub record Ticked (fx : Fixed) (x : Lent) (d : Done) : Type 0 where
  pub number : number_of d.returned ≡ whole_number fx x
  pub left : d.after ≡ leftByAll fx x
  pub refused : RefusedBy fx x (given d.returned)

-- `alone::tick_voice` of voice v, lent x
pub record VoiceTicked (fx : Fixed) (v : ℕ) (x : Lent) (d : Done) : Type 0 where
  pub number : number_of d.returned ≡ alone_number fx v x
  pub left : d.after ≡ leftByOne fx v x
  pub listed : given d.returned ≡ refused fx v x

-- and that this is what they ensure: nothing but the window is left out there, which they are lent to read
pub record AsEnsured : Type 0 where
  pub tick : (fx : Fixed) (x : Lent) (d : Done) → d.after.memory.window ≡ x.memory.window → Ensured fx x d.returned d.after
      → Ticked fx x d
  pub tick_voice : (fx : Fixed) (v : ℕ) (x : Lent) (d : Done) → d.after.memory.window ≡ x.memory.window
      → VoiceEnsured fx v x d.returned d.after → VoiceTicked fx v x d

-- ---- runs of such calls

-- what the theorem speaks of
unfoldable pub outcome_of : Done → Outcome
outcome_of d = record { code = number_of d.returned; refusals = given d.returned; left = d.after }

-- what call k is lent: the recording's writes, made in what the call before it left
abbrev pub lent_at : Lent → List Frame → (ℕ → Done) → ℕ → Lent
lent_at start frames done k = lent start frames (λ j. outcome_of (done j)) k

-- call k of the run is such a call, for each of its frames
abbrev pub RunOf : (Lent → Done → Type 0) → Lent → List Frame → (ℕ → Done) → Type 0
RunOf Call start frames done = (k : ℕ) → k < length frames → Call (lent_at start frames done k) (done k)

-- ---- the claims

-- From a start that is of its types and accepted, with any recording that writes bytes and samples: the run of `tick` and the 24 runs of
-- `tick_voice` compare after every frame as document 01 has it.
abbrev pub CallsCompared : Type 0
CallsCompared =
    (fx : Fixed) (start : Lent) → Typed start.memory → whole_number fx start ≡ 0
    → (frames : List Frame) → ((k : ℕ) → k < length frames → TypedFrame (get_or frames k still))
    → (whole : ℕ → Done) → RunOf (Ticked fx) start frames whole
    → (stem : ℕ → ℕ → Done) → ((v : ℕ) → v < VOICES → RunOf (VoiceTicked fx v) start frames (stem v))
    → (k : ℕ) → k < length frames → Compared fx start.memory frames k (outcome_of (whole k)) (λ v. outcome_of (stem v k))

-- The claim is not empty: from every start, and `runs_exist` of stems has one that is accepted, there are such runs for every recording.
pub record CallsRun : Type 0 where
  pub whole : (fx : Fixed) (start : Lent) (frames : List Frame) → (done : ℕ → Done) × RunOf (Ticked fx) start frames done
  pub stem : (fx : Fixed) (v : ℕ) (start : Lent) (frames : List Frame) → (done : ℕ → Done) × RunOf (VoiceTicked fx v) start frames done
