-- What the call for one voice alone leaves of what is lent to it, and the refused voices that it gives back. Assumes nothing: these are
-- definitions.
use Rattle.std.specs.Prelude.{◌≡◌, ℕ, List, [], ◌∷◌, Result}
use Rattle.refusals.specs.declared.Refusal.{Refusal as Reason}
use Rattle.refusals.specs.Numbers.{number_of}
use Rattle.stems.specs.Alone.{leaves_alone}
use Rattle.stems.specs.Call.{Refusal, alone_number}
use Rattle.stems.specs.Memory.{Lent}
use Rattle.stems.specs.Whole.{refusals}
use Rattle.stems.specs.declared.Fixed.{Fixed}
use Rattle.calls.specs.Refused.{given}
use Rattle.calls.specs.declared.refused.Refused.{Refused}

-- "nothing written" where its number is not 0, and else v's answer, put where v's own lies, and what v adds
abbrev pub left : Fixed → ℕ → Lent → Lent
left fx v x = leaves_alone (alone_number fx v x) fx v x

-- "refused voices come as a list of voice and number": v if it is refused
abbrev pub refused : Fixed → ℕ → Lent → List Refusal
refused fx v x = refusals (alone_number fx v x) fx x (v ∷ [])

-- what `tick_voice` ensures of what it is lent, of what it gives back, and of what was lent to it as it leaves it
abbrev pub Ensured : Fixed → ℕ → Lent → Result Refused Reason → Lent → Type 0
Ensured fx v x r after =
    (number_of r ≡ alone_number fx v x) × (after.memory.records ≡ (left fx v x).memory.records)
    × (after.memory.region0 ≡ (left fx v x).memory.region0) × (after.memory.region1 ≡ (left fx v x).memory.region1)
    × (after.memory.lanes ≡ (left fx v x).memory.lanes) × (after.mixes ≡ (left fx v x).mixes) × (given r ≡ refused fx v x)
