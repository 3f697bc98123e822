-- `entries::entry::Adding::add_slots` meets its contract. The invariant: behind what was there stand the entries of the slots passed.
-- Assumes nothing.
use Rattle.std.proofs.Common.{◌≡◌, ◌++◌, ◌+◌, ◌≤◌, length}
use Rattle.entries.specs.Entries.{slots_entries}
use Rattle.entries.proofs.entry.Adding.add_slots.Given as goal

abbrev pub invariant-loop-number : goal.invariant-loop-number
invariant-loop-number l = record {
  room : length l.entries.items ≤ l.number + 1;
  list : l.entries.items ≡ l.initial.entries.items ++ slots_entries l.self.bytes.now l.self.format l.self.stereo l.number;
}
