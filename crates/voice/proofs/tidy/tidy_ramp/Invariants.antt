-- `voice::tidy::tidy_ramp` meets its contract: the loop fills the ramps from the front. Assumes nothing.
use Rattle.lists.proofs.Fill.{Filling}
use Rattle.voice.specs.Tidy.{tidy_ramp}
use Rattle.voice.proofs.tidy.tidy_ramp.Given as goal

abbrev pub invariant-loop-k : goal.invariant-loop-k
invariant-loop-k l = Filling (tidy_ramp l.marks l.initial.ramp) l.initial.ramp l.ramp l.k
