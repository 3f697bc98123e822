-- `steps::step::step` meets its contract. Assumes nothing.
use Rattle.steps.specs.Step.{moved, left, consumed}
use Rattle.steps.proofs.step.step.Goals as goal

pub returns : goal.returns
unfolding moved left consumed
returns c = cc
