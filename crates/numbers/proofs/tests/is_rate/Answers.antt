-- `numbers::tests::is_rate` meets its contract. Assumes nothing.
use Rattle.std.proofs.Common.{sym, ◌∙◌}
use lib.Ieee.Scale.{finite}
use Rattle.lists.proofs.Bools.{and_yes, and_no}
use Rattle.numbers.specs.Tests.{is_rate}
use Rattle.numbers.proofs.Literals.{zero_64}
use Rattle.numbers.proofs.Forms.{finite_is}
use Rattle.numbers.proofs.tests.is_rate.Goals as goal

pub returns-then-x : goal.returns-then-x
unfolding is_rate
returns-then-x c =
    c.is_finite.ensures.value ∙ finite_is c.args.x ∙ sym (and_yes (finite c.args.x) (rw zero_64 at c.if-x.true))

pub returns-else-x : goal.returns-else-x
unfolding is_rate
returns-else-x c = c.if-x.false ∙ sym (and_no (finite c.args.x) (rw zero_64 at c.if-x.false))
