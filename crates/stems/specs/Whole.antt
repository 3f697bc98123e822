-- What a call for all voices leaves, whatever the order in which it takes them: each voice's answer in memory as the call finds it, put
-- where that voice's own lies. Assumes nothing: these are definitions and statements; `every_order` of proofs/Whole.antt and `listed_once`
-- of proofs/Listed.antt prove the two.
use Rattle.std.specs.Prelude.{◌≡◌, ℕ, zero, suc, ◌+◌, Bool, true, false, not, ◌&&◌, cond, eqb, ltb, ℤ}
use mathlib.Core.List.{List, [], ◌∷◌, map, Permᴰ}
use Rattle.lists.specs.Joined.{joined}
use Rattle.lists.specs.Splice.{splice}
use Rattle.lists.specs.Tabulate.{tabulate}
use Rattle.numbers.specs.Sizes.{MIXES}
use Rattle.numbers.specs.Wrap.{wrap32}
use Rattle.voice_frame.specs.VoiceFrame.{Answer, number_of, voice_after, lane_after, configuration_after, status_after}
use Rattle.stems.specs.declared.Fixed.{Fixed}
use Rattle.stems.specs.Memory.{VOICES, Memory, Lent, Typed, lane_of, record_of, itsConfiguration, itsStatus, bytes_of}
use Rattle.stems.specs.Call.{second_read, answer, adds, Refusal, noted, whole_number, Outcome, called, all_voices, sum_of}

module _ (fx : Fixed) (m : Memory) where
  -- what voice v is answered: "served, modules 2 to 6 give v's record, lane, configuration and status bytes and what it adds", and
  -- "Refused, all stays and v adds 0 to every mix value"
  abbrev pub gets : ℕ → Answer
  gets v = answer fx (second_read fx.layout m) v m

  -- the region that is read, with every voice's configuration, and the other one, with every voice's status
  unfoldable pub region_left : Bool → List ℕ → List ℕ
  region_left true region =
      splice region fx.layout.configurations
      (joined VOICES (λ v. configuration_after (gets v) (bytes_of fx.layout v itsConfiguration region)))
  region_left false region =
      splice region fx.layout.statuses (joined VOICES (λ v. status_after (gets v) (bytes_of fx.layout v itsStatus region)))

  unfoldable pub memory_left : Memory
  memory_left = record {
    region0 = region_left (not (second_read fx.layout m)) m.region0;
    region1 = region_left (second_read fx.layout m) m.region1;
    window = m.window;
    records = tabulate (λ v. voice_after (gets v) (record_of v m.records)) VOICES;
    lanes = joined VOICES (λ v. lane_after (gets v) (lane_of v m.lanes));
  }

  -- "Mix sums wrap and start from 0 in each call"
  unfoldable pub mixes_left : List ℤ
  mixes_left = tabulate (λ i. wrap32 (sum_of VOICES (λ v. adds (gets v) i))) MIXES

-- what a call with this number leaves: with 0 the above, with another all as it was
unfoldable pub leaves : ℕ → Fixed → Lent → Lent
leaves zero fx x = record { memory = memory_left fx x.memory; mixes = mixes_left fx x.memory }
leaves (suc n) fx x = x

-- the voices of a list that are refused, in its order, each with its number
unfoldable pub refused_of : (ℕ → ℕ) → List ℕ → List Refusal
refused_of number [] = []
refused_of number (v ∷ vs) = noted v (number v) (refused_of number vs)

-- the refused voices of a call with this number that takes the voices in this order
unfoldable pub refusals : ℕ → Fixed → Lent → List ℕ → List Refusal
refusals zero fx x order = refused_of (λ v. number_of (gets fx x.memory v)) order
refusals (suc n) fx x order = []

-- The list of refused voices: "A call may serve in any order that takes each voice once, and the list follows that order". The order is
-- free.
pub record Listed (fx : Fixed) (x : Lent) (rs : List Refusal) : Type 0 where
  pub order : List ℕ
  pub each_once : Permᴰ order all_voices
  pub is : rs ≡ refusals (whole_number fx x) fx x order

-- how often n stands in a list
unfoldable pub count : ℕ → List ℕ → ℕ
count n [] = 0
count n (m ∷ ms) = cond (eqb n m) 1 0 + count n ms

-- voice v is refused in a call with this number: with 0, if it is one of the 24 voices and its own number is not 0; with another, none is
unfoldable pub is_refused : ℕ → Fixed → Lent → ℕ → Bool
is_refused zero fx x v = ltb v VOICES && not (eqb (number_of (gets fx x.memory v)) 0)
is_refused (suc n) fx x v = false

-- "refused voices come as a list of voice and number, each once": a voice that is refused stands in the list once, and no other does.
abbrev pub ListedOnce : Type 0
ListedOnce =
    (fx : Fixed) (x : Lent) (rs : List Refusal) → Listed fx x rs
    → (v : ℕ) → count v (map (λ r. r.voice) rs) ≡ cond (is_refused (whole_number fx x) fx x v) 1 0

-- The call for all voices, as its contract has it: its number, what it leaves, and the list of refused voices.
pub record AllServed (fx : Fixed) (x : Lent) (o : Outcome) : Type 0 where
  pub code : o.code ≡ whole_number fx x
  pub left : o.left ≡ leaves (whole_number fx x) fx x
  pub listed : Listed fx x o.refusals

-- Every order of serving is such a call: it leaves the same memory and mixes, and its list is that of the order.
abbrev pub EveryOrder : Type 0
EveryOrder =
    (fx : Fixed) (x : Lent) → Typed x.memory → (order : List ℕ) → Permᴰ order all_voices
    → AllServed fx x (called (whole_number fx x) fx order x)
