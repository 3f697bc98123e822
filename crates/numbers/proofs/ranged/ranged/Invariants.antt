-- `numbers::ranged::ranged` meets its contract: each value that is read is known to be one of its type. Assumes nothing.
use Rattle.std.proofs.Common.{ℕ, ◌<◌, slice_index_or}
use Rattle.numbers.proofs.ranged.ranged.Given as goal

abbrev pub invariant-loop-x : goal.invariant-loop-x
invariant-loop-x g l = (k : ℕ) → k < l.x-index → g.T.Signed.InRange (slice_index_or l.values k g.T.Signed.zero)
