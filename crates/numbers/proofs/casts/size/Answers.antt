-- `numbers::casts::size` meets its contract. Assumes nothing.
use Rattle.numbers.proofs.casts.size.Goals as goal

pub neg-requires : goal.neg-requires
neg-requires g c = (g.met.F.Real.can_operate c.args.z c.args.z).1.1
