-- `voice::tidy::tidy_queue` meets its contract: the loop tidies the queued entries from the front. Assumes nothing.
use Rattle.std.proofs.Common.{◌≡◌, ◌++◌, map, take, drop}
use Rattle.voice.specs.Tidy.{tidy_entry}
use Rattle.voice.proofs.tidy.tidy_queue.Given as goal

abbrev pub invariant-loop-e : goal.invariant-loop-e
invariant-loop-e l = l.kept ≡ map tidy_entry (take l.e-index l.initial.kept) ++ drop l.e-index l.initial.kept
