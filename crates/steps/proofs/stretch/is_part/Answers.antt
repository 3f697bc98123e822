-- `steps::stretch::is_part` meets its contract. Assumes nothing.
use mathlib.Core.Path.{sym, ap, ◌∙◌}
use lib.Ieee.{Float, lt, le}
use Rattle.lists.proofs.Bools.{and_yes, and_no}
use Rattle.numbers.specs.Literals.{+1}
use Rattle.numbers.proofs.Literals.{zero_64, one_64}
use Rattle.steps.specs.Steady.{is_part}
use Rattle.steps.proofs.stretch.is_part.Goals as goal

pub returns-then-fraction : goal.returns-then-fraction
unfolding is_part
returns-then-fraction c =
    let x = c.args.fraction in
    ap (lt x) one_64 ∙ sym (and_yes (lt x +1) (ap (λ (y : Float). le y x) (sym zero_64) ∙ c.if-fraction.true))

pub returns-else-fraction : goal.returns-else-fraction
unfolding is_part
returns-else-fraction c =
    let x = c.args.fraction in
    c.if-fraction.false ∙ sym (and_no (lt x +1) (ap (λ (y : Float). le y x) (sym zero_64) ∙ c.if-fraction.false))
