-- `steps::stretch::Course::is_steady` meets its contract. Assumes nothing.
use mathlib.Core.Path.{sym, ◌∙◌}
use Rattle.lists.proofs.Bools.{and_yes, and_no}
use Rattle.steps.specs.Steady.{is_slow, steady}
use Rattle.steps.proofs.stretch.Course.is_steady.Goals as goal

pub returns-then-is_part : goal.returns-then-is_part
unfolding steady
returns-then-is_part c = c.is_slow.ensures ∙ sym (and_yes (is_slow c.args.self.rate) (sym c.is_part.ensures ∙ c.if-is_part.true))

pub returns-else-is_part : goal.returns-else-is_part
unfolding steady
returns-else-is_part c = c.if-is_part.false ∙ sym (and_no (is_slow c.args.self.rate) (sym c.is_part.ensures ∙ c.if-is_part.false))
