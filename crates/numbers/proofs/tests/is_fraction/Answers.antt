-- `numbers::tests::is_fraction` meets its contract. Assumes nothing.
use Rattle.numbers.proofs.Literals.{zero_64}
use Rattle.numbers.proofs.Forms.{fraction_form}
use Rattle.numbers.proofs.tests.is_fraction.Goals as goal

pub returns : goal.returns
returns c = rw zero_64 (fraction_form c.args.x)
