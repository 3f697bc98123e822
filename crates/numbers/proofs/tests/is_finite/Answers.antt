-- `numbers::tests::is_finite` meets its contract. Assumes nothing.
use Rattle.std.proofs.Common.{◌∙◌}
use Rattle.numbers.proofs.Forms.{finite_is}
use Rattle.numbers.proofs.tests.is_finite.Goals as goal

pub returns : goal.returns
returns c = c.is_finite.ensures.value ∙ finite_is c.args.x
