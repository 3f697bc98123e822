-- `queueing::push::push_entries` meets its contract. The invariant: the entries passed are queued. Assumes nothing.
use Rattle.std.proofs.Common.{◌≡◌, ◌+◌, take}
use Rattle.queueing.specs.Queue.{pushed_all}
use Rattle.queueing.proofs.push.push_entries.Given as goal

abbrev pub invariant-loop-e : goal.invariant-loop-e
invariant-loop-e l = record {
  count : l.v.queued ≡ l.initial.v.queued + l.e-index;
  passed : l.v ≡ pushed_all (take l.e-index l.entries) l.initial.v;
}
