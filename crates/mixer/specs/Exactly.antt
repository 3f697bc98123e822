-- What the numbers of the mixer's call mean: each is given exactly if its line of document 01's table holds, and none above it. And what a
-- refused call leaves. `proofs/Exactly.antt` proves both of every call. Assumes nothing: these are statements.
use Rattle.std.specs.Prelude.{ℕ, ◌≤◌, ◌<◌, ◌≡◌, ◌↔◌, ◌≢◌, List, ℤ, length}
use Rattle.layout.specs.Exactly.{LengthsWrong, EndsPast, ShareByte}
use Rattle.layout.specs.declared.Layout.{Layout}
use Rattle.numbers.specs.Sizes.{MIXES}
use Rattle.mixer_frame.specs.Frame.{silence}
use Rattle.mixer.specs.Tick.{Outcome, ticked}
use Rattle.mixer_state.specs.declared.Mixer.{Mixer}

module _ (l : Layout) (m : Mixer) (mixes : List ℤ) (which : ℕ) (first second : List ℕ) where
  abbrev call : Outcome
  call = ticked l m mixes which first second

  -- the call gives this number
  abbrev pub Gives : ℕ → Type 0
  Gives n = call.answer.number ≡ n

  -- the sentences of 1, 2 and 3, which are of the regions' lengths and the layout alone, in words of bytes
  abbrev pub One : Type 0
  One = LengthsWrong (length first) (length second)

  abbrev pub Two : Type 0
  Two = EndsPast (length first) l

  abbrev pub Three : Type 0
  Three = ShareByte l

  abbrev pub NoneOfThree : Type 0
  NoneOfThree = (One → ⊥) × (Two → ⊥) × (Three → ⊥)

  -- "Given exactly if"
  pub record ExactlyIf : Type 0 where
    -- "no whole-call number applies"
    pub zero : Gives 0 ↔ NoneOfThree × (length mixes ≡ MIXES) × (which ≤ 1)
    pub one : Gives 1 ↔ One
    pub two : Gives 2 ↔ (One → ⊥) × Two
    pub three : Gives 3 ↔ (One → ⊥) × (Two → ⊥) × Three
    -- "the mix buffer is not 1,920 signed 32-bit numbers", and no lower number applies
    pub six : Gives 6 ↔ NoneOfThree × (length mixes ≢ MIXES)
    -- "the mixer's region number exceeds 1", and no lower number applies
    pub eight : Gives 8 ↔ NoneOfThree × (length mixes ≡ MIXES) × (1 < which)

  -- "A refused mixer call gives a zero frame and the state it was given", and in both regions there is "nothing written"
  pub record LeavesAll : Type 0 where
    pub frame : call.answer.frame ≡ silence
    pub state : call.answer.mixer ≡ m
    pub region0 : call.first ≡ first
    pub region1 : call.second ≡ second

  abbrev pub RefusedLeavesAll : Type 0
  RefusedLeavesAll = call.answer.number ≢ 0 → LeavesAll
