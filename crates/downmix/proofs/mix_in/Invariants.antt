-- `downmix::mix_in` meets its contract: after i turns the first i pairs are the goal's, the others as they were. Assumes nothing.
use Prim.Native.Nat.{◌*◌}
use Rattle.lists.proofs.Fill.{Filling}
use Rattle.downmix.specs.Downmix.{mixed_in}
use Rattle.downmix.proofs.mix_in.Given as goal

abbrev pub invariant-loop-i : goal.invariant-loop-i
invariant-loop-i l = Filling (mixed_in l.output l.volume l.mix l.initial.frame) l.initial.frame l.frame (l.i * 2)
