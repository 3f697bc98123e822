-- The mixer's call: what it gives back and what it leaves in the two regions, refused or not. Assumes nothing: these are definitions.
use Rattle.std.specs.Prelude.{◌≡◌, ℕ, zero, suc, not, cond, List, eqb, ltb, ℤ, length}
use Rattle.lists.specs.Splice.{part}
use Rattle.layout.specs.Places.{layout_number}
use Rattle.layout.specs.declared.Layout.{Layout}
use Rattle.numbers.specs.Sizes.{MIXES}
use Rattle.mixer_state.specs.Configuration.{configuration_bytes, configured, cleared}
use Rattle.mixer_frame.specs.Frame.{silence, frame_of, write_after}
use Rattle.mixer_state.specs.declared.Mixer.{Mixer}
use Rattle.refusals.specs.Numbers as refusals
use Rattle.mixer.specs.declared.tick.Mixed as code

-- "The lowest number that applies is returned": 1, 2 and 3 of the layout, 6 where the mixes are not 1,920 numbers, 8 where the number of
-- the region to be read exceeds 1
abbrev pub number_of : ℕ → ℕ → Layout → ℕ → ℕ → ℕ
number_of first second l mixes which =
    cond (eqb (layout_number first second l) 0) (cond (not (eqb mixes MIXES)) 6 (cond (ltb 1 which) 8 0)) (layout_number first second l)

-- ---- the state in force, by the region that is read

module _ (l : Layout) where
  -- the 44 bytes of the configuration
  abbrev configuration_in : List ℕ → List ℕ
  configuration_in region = part l.mixer_configuration configuration_bytes region

  -- the state in force, which the call gives back
  abbrev pub state_of : Mixer → List ℕ → Mixer
  state_of m read = configured (configuration_in read) m

-- ---- the call

-- what a call gives back: 0, or the number of its refusal; the state; and 160 pairs of final samples
pub record Mixed : Type 0 where
  pub number : ℕ
  pub mixer : Mixer
  pub frame : List ℤ

-- the code's result is such an answer, part by part
pub record GivesBack (result : code.Mixed) (answer : Mixed) : Type 0 where
  pub number : refusals.number_of result.outcome ≡ answer.number
  pub mixer : result.mixer ≡ answer.mixer
  pub frame : result.frame ≡ answer.frame

-- what a call gives back, and what it leaves in regions 0 and 1
pub record Outcome : Type 0 where
  pub answer : Mixed
  pub first : List ℕ
  pub second : List ℕ

-- Regions 0 and 1 as the region read and the other one, by the number of the region to be read; and those two as regions 0 and 1 again:
-- with region 1 read they change places.
abbrev pub exchanged : ℕ → List ℕ × List ℕ → List ℕ × List ℕ
exchanged zero regions = regions
exchanged (suc k) regions = (regions.1, regions.0)

-- "A refused mixer call gives a zero frame and the state it was given"
abbrev pub refusal : Mixer → ℕ → Mixed
refusal m n = record { number = n; mixer = m; frame = silence }

module _ (l : Layout) (m : Mixer) (mixes : List ℤ) where
  -- what a call that is not refused gives back, by the region read
  abbrev pub served : List ℕ → Mixed
  served read = record { number = 0; mixer = state_of l m read; frame = frame_of l (state_of l m read) read mixes }

  -- and what it leaves in the region read and in the other one
  abbrev pub left : List ℕ × List ℕ → List ℕ × List ℕ
  left used = (cleared l.mixer_configuration used.0, write_after l (state_of l m used.0) used.0 mixes used.1)

  -- what a call with this number gives back, 0 or that of a refusal, by the region read
  abbrev pub answered : ℕ → List ℕ → Mixed
  answered n read = cond (eqb n 0) (served read) (refusal m n)

  -- and what it leaves in the region read and in the other one: refused, "nothing written"
  abbrev pub after : ℕ → List ℕ × List ℕ → List ℕ × List ℕ
  after n used = cond (eqb n 0) (left used) used

  module _ (which : ℕ) (first second : List ℕ) where
    -- a call with this number: the regions are put in the order of their use, and back
    abbrev pub called : ℕ → Outcome
    called n =
        let used = exchanged which (first, second) in
        let regions = exchanged which (after n used) in
        record { answer = answered n used.0; first = regions.0; second = regions.1 }

    -- the whole call: what it gives and leaves
    unfoldable pub ticked : Outcome
    ticked = called (number_of (length first) (length second) l (length mixes) which)
