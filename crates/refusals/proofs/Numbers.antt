-- Numbers tell refusals apart, since each number leads back to its refusal; and 0 leads to none. Assumes nothing.
use Rattle.std.proofs.Common.{◌≡◌, ℕ, ◌<◌, refl, sym, ap, ◌∙◌, cond, eqb, arith}
use lib.Dec.{lit<}
use Rattle.std.specs.Prelude.{Result, Ok, Err}
use Rattle.refusals.specs.Numbers.{number, Apart, OkExactly}
use Rattle.refusals.specs.declared.Refusal.{Refusal}
use Rattle.refusals.specs.declared.Refusal.TheVariants.{RegionLengths, PlaceOutside, PlacesShare, WindowEnd, RecordsOrLanes, MixLength}
use Rattle.refusals.specs.declared.Refusal.TheVariants.{Malformed, RegionNumber, Decode, VoiceNumber, QueueFull, EntryTooLong}

-- the refusal of a number; the last of any that has none
abbrev numbered : ℕ → Refusal
numbered n =
    cond (eqb n 1) RegionLengths
    (cond (eqb n 2) PlaceOutside
    (cond (eqb n 3) PlacesShare
    (cond (eqb n 4) WindowEnd
    (cond (eqb n 5) RecordsOrLanes
    (cond (eqb n 6) MixLength
    (cond (eqb n 7) Malformed
    (cond (eqb n 8) RegionNumber
    (cond (eqb n 9) Decode
    (cond (eqb n 10) VoiceNumber
    (cond (eqb n 20) QueueFull EntryTooLong))))))))))

back : (r : Refusal) → numbered (number r) ≡ r
back RegionLengths = refl
back PlaceOutside = refl
back PlacesShare = refl
back WindowEnd = refl
back RecordsOrLanes = refl
back MixLength = refl
back Malformed = refl
back RegionNumber = refl
back Decode = refl
back VoiceNumber = refl
back QueueFull = refl
back EntryTooLong = refl

pub apart : Apart
apart r s e = sym (back r) ∙ ap numbered e ∙ back s

-- no refusal has the number 0
pub positive : (r : Refusal) → 0 < number r
positive RegionLengths = lit< tt
positive PlaceOutside = lit< tt
positive PlacesShare = lit< tt
positive WindowEnd = lit< tt
positive RecordsOrLanes = lit< tt
positive MixLength = lit< tt
positive Malformed = lit< tt
positive RegionNumber = lit< tt
positive Decode = lit< tt
positive VoiceNumber = lit< tt
positive QueueFull = lit< tt
positive EntryTooLong = lit< tt

pub ok_exactly : {A : Type 0} → (answer : Result A Refusal) → OkExactly answer
ok_exactly (Ok a) = (λ e. refl, λ o. refl)
ok_exactly (Err r) = (λ e. absurd (omega (arith, positive r, e)), λ o. cc)
