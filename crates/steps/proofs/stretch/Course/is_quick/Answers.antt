-- `steps::stretch::Course::is_quick` meets its contract: the tests say so. Assumes nothing.
use mathlib.Core.Path.{sym, ap, ◌∙◌}
use Prim.Native.Nat.{ℕ, ◌+◌, ◌*◌}
use lib.Dec.{ltb}
use Rattle.lists.proofs.Bools.{and_no, and_yes}
use Rattle.steps.specs.Steady.{quick_way}
use Rattle.steps.proofs.stretch.Course.is_quick.Goals as goal

pub returns-then-is_steady : goal.returns-then-is_steady
unfolding quick_way
returns-then-is_steady c =
    let a = c.args.self in
    ap (λ (n : ℕ). ltb (a.room * (n + 1) + 1) a.start.remaining) c.whole_part.ensures.value
    ∙ sym (and_yes _ (sym c.is_steady.ensures ∙ c.if-is_steady.true))

pub returns-else-is_steady : goal.returns-else-is_steady
unfolding quick_way
returns-else-is_steady c = c.if-is_steady.false ∙ sym (and_no _ (sym c.is_steady.ensures ∙ c.if-is_steady.false))
