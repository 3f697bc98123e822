-- A voice with a number other than 0 is noted, and one with 0 is not: by the number. Assumes nothing.
use Rattle.std.proofs.Common.{◌≡◌, ℕ, ◌<◌, List, [], ◌∷◌, ◌++◌, refl, sym, ap, arith}
use mathlib.Core.List.{append-nil}
use Prim.Native.Nat.{zero, suc}
use Rattle.refusals.specs.declared.Refusal.{Refusal as Reason}
use Rattle.refusals.specs.Numbers.{number}
use Rattle.refusals.proofs.Numbers.{positive}
use Rattle.stems.specs.Call.{Refusal, noted}
use Rattle.calls.specs.Refused.{refused_after}

noted_number : (v n : ℕ) → 0 < n → noted v n [] ≡ record { voice = v; number = n } ∷ []
unfolding noted
noted_number v zero h = absurd (omega arith)
noted_number v (suc n) h = refl

pub noted_one : (v : ℕ) (e : Reason) (so_far : List Refusal)
    → so_far ++ (record { voice = v; number = number e } ∷ []) ≡ refused_after v (number e) so_far
noted_one v e so_far = ap (λ l. so_far ++ l) (sym (noted_number v (number e) (positive e)))

pub noted_none : (v : ℕ) (so_far : List Refusal) → so_far ≡ refused_after v 0 so_far
unfolding noted
noted_none v so_far = sym (append-nil so_far)
