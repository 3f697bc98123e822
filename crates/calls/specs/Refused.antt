-- The refused voices of a call as they are given back. Assumes nothing: these are definitions.
use Rattle.std.specs.Prelude.{ℕ, List, [], ◌++◌, map, Result, Ok, Err}
use Rattle.refusals.specs.declared.Refusal.{Refusal as Reason}
use Rattle.refusals.specs.Numbers.{number}
use Rattle.stems.specs.Call.{Refusal, noted}
use Rattle.calls.specs.declared.refused.Refused.{Refused}
use Rattle.calls.specs.declared.refused.RefusedVoice.{RefusedVoice}

-- the refusal that a listed voice stands for
abbrev pub refusal : RefusedVoice → Refusal
refusal r = record { voice = r.voice; number = number r.refusal }

-- the list of refusals, in its order
abbrev pub refusals_of : List RefusedVoice → List Refusal
refusals_of = map refusal

-- what a call gives back lists: a call that is refused as a whole lists none
abbrev pub given : Result Refused Reason → List Refusal
given (Ok refused) = refusals_of refused.items
given (Err reason) = []

-- the list after a voice with this number: it is noted behind the others, unless the number is 0
abbrev pub refused_after : ℕ → ℕ → List Refusal → List Refusal
refused_after v number so_far = so_far ++ noted v number []
