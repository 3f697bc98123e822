-- `calls::refusal::accept_records` meets its contract, by the test of the records. Assumes nothing.
use Rattle.std.proofs.Common.{◌≡◌, Bool, List, [], ◌∷◌, ◌||◌, cond, refl, sym, ap, ◌∙◌}
use Rattle.std.specs.List.{list_any}
use Rattle.lists.specs.Some.{some}
use Rattle.stems.specs.Memory.{lane_length}
use Rattle.calls.proofs.refusal.accept_records.Goals as goal

any_some : {A : Type 0} → (test : A → Bool) (xs : List A) → list_any test xs ≡ some test xs
any_some test [] = refl
any_some test (x ∷ xs) = ap (λ b. test x || b) (any_some test xs)

pub returns-then-any_malformed : goal.returns-then-any_malformed
unfolding lane_length
returns-then-any_malformed c =
    sym (ap (λ b. cond b 7 0) (sym (any_some _ c.args.records.now) ∙ sym c.any_malformed.ensures ∙ c.if-any_malformed.true))

pub returns : goal.returns
unfolding lane_length
returns c =
    sym (ap (λ b. cond b 7 0) (sym (any_some _ c.args.records.now) ∙ sym c.any_malformed.ensures ∙ c.if-any_malformed.false))
