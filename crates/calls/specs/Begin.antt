-- How a call begins that is not refused, and what it may then rely on. Inner definitions: the call's contract does not name them. Assumes
-- nothing: these are definitions.
use Rattle.std.specs.Prelude.{◌≡◌, ℕ, ◌+◌, ◌≤◌, Bool, true, false, List, eqb}
use Rattle.little.specs.Little.{at16}
use Rattle.region.specs.Choice.{chosen}
use Rattle.region.specs.declared.Region.{Region}
use Rattle.region.specs.declared.Region.TheVariants.{Zero, One}
use Rattle.stems.specs.Memory.{VOICES}
use Rattle.stems.specs.Call.{Lengths, lengths_number}
use Rattle.stems.specs.declared.Fixed.{Fixed}

-- how much of each thing is lent
abbrev pub lengths_of : ℕ → ℕ → ℕ → ℕ → ℕ → Lengths
lengths_of records region0 region1 window lanes = record {
  region0 = region0;
  region1 = region1;
  window = window;
  records = records;
  lanes = lanes;
}

-- 1 to 6, by how much of each thing is lent
abbrev pub lengths_code : Fixed → ℕ → ℕ → ℕ → ℕ → ℕ → ℕ → ℕ
lengths_code fx records region0 region1 window lanes mixes = lengths_number fx (lengths_of records region0 region1 window lanes) mixes

-- none of 1 to 6 applies to so much lent, with 24 records
abbrev pub Fitting : Fixed → ℕ → ℕ → ℕ → ℕ → ℕ → Type 0
Fitting fx region0 region1 window lanes mixes = lengths_number fx (lengths_of VOICES region0 region1 window lanes) mixes ≡ 0

-- the frame counter lies in both regions
pub record Counted (fx : Fixed) (region0 region1 : ℕ) : Type 0 where
  pub in0 : fx.layout.frame_counter + 2 ≤ region0
  pub in1 : fx.layout.frame_counter + 2 ≤ region1

-- region 1
abbrev pub is_second : Region → Bool
is_second Zero = false
is_second One = true

-- region 1 is read, by the two frame counters, and not region 0
unfoldable pub second_of : Fixed → List ℕ → List ℕ → Bool
second_of fx region0 region1 = eqb (chosen (at16 region0 fx.layout.frame_counter) (at16 region1 fx.layout.frame_counter)) 1
