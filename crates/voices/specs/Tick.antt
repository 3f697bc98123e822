-- What the call for all voices gives back and leaves, whatever the order in which it takes the voices. Assumes nothing: these are
-- definitions.
use Rattle.std.specs.Prelude.{◌≡◌, List, Result}
use Rattle.refusals.specs.declared.Refusal.{Refusal as Reason}
use Rattle.refusals.specs.Numbers.{number_of}
use Rattle.stems.specs.Call.{Refusal, whole_number}
use Rattle.stems.specs.Memory.{Lent}
use Rattle.stems.specs.Whole.{Listed, leaves}
use Rattle.stems.specs.declared.Fixed.{Fixed}
use Rattle.calls.specs.Refused.{given}
use Rattle.calls.specs.declared.refused.Refused.{Refused}

-- what the call leaves of what is lent to it: "nothing written" where its number is not 0, and else each voice's answer, put where its own
-- lies
abbrev pub left : Fixed → Lent → Lent
left fx x = leaves (whole_number fx x) fx x

-- "refused voices come as a list of voice and number": the list is free in its order alone, which takes each voice once
abbrev pub RefusedBy : Fixed → Lent → List Refusal → Type 0
RefusedBy = Listed

-- what `tick` ensures of what it is lent, of what it gives back, and of what was lent to it as it leaves it
abbrev pub Ensured : Fixed → Lent → Result Refused Reason → Lent → Type 0
Ensured fx x r after =
    (number_of r ≡ whole_number fx x) × (after.memory.records ≡ (left fx x).memory.records)
    × (after.memory.region0 ≡ (left fx x).memory.region0) × (after.memory.region1 ≡ (left fx x).memory.region1)
    × (after.memory.lanes ≡ (left fx x).memory.lanes) × (after.mixes ≡ (left fx x).mixes) × RefusedBy fx x (given r)
