-- `replaying::held::read_each` meets its contract: the loop fills the values from the front. Assumes nothing.
use Rattle.std.proofs.Common.{◌≡◌, ◌++◌, map, take, drop}
use Rattle.replaying.proofs.held.read_each.Given as goal

abbrev pub invariant-loop-i : goal.invariant-loop-i
invariant-loop-i g l = l.values ≡ map g.T.Held.held (take l.i l.part-items) ++ drop l.i l.initial.values
