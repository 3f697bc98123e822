-- The numbers of what calls answer, as document 01's table has them. Assumes nothing: these are definitions;
-- `apart` and `ok_exactly` of proofs/Numbers.antt prove the two statements.
use Rattle.std.specs.Prelude.{◌≡◌, ◌↔◌, ℕ, Result, Ok, Err, IsOk}
use Rattle.refusals.specs.declared.Refusal.{Refusal}
use Rattle.refusals.specs.declared.Refusal.TheVariants.{RegionLengths, PlaceOutside, PlacesShare, WindowEnd, RecordsOrLanes, MixLength}
use Rattle.refusals.specs.declared.Refusal.TheVariants.{Malformed, RegionNumber, Decode, VoiceNumber, QueueFull, EntryTooLong}

-- the number of a refusal
abbrev pub number : Refusal → ℕ
number RegionLengths = 1
number PlaceOutside = 2
number PlacesShare = 3
number WindowEnd = 4
number RecordsOrLanes = 5
number MixLength = 6
number Malformed = 7
number RegionNumber = 8
number Decode = 9
number VoiceNumber = 10
number QueueFull = 20
number EntryTooLong = 21

-- the number of an answer: 0 exactly if nothing was refused
abbrev pub number_of : {A : Type 0} → Result A Refusal → ℕ
number_of (Ok a) = 0
number_of (Err e) = number e

-- No two refusals have one number.
abbrev pub Apart : Type 0
Apart = (r s : Refusal) → number r ≡ number s → r ≡ s

-- An answer's number is 0 exactly if nothing was refused.
abbrev pub OkExactly : {A : Type 0} → Result A Refusal → Type 0
OkExactly answer = number_of answer ≡ 0 ↔ IsOk answer
