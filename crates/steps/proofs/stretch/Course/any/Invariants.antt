-- `steps::stretch::Course::any` meets its contract: a turn is one step, by the laws of Walk. Assumes nothing.
use Rattle.steps.proofs.Walk.{Loop}
use Rattle.steps.proofs.stretch.Course.any.Given as goal

abbrev pub invariant-loop-k : goal.invariant-loop-k
invariant-loop-k l = Loop l.self.rate l.self.start l.self.size l.places l.fractions l.self.room l.at l.fraction l.k
