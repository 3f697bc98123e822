-- `dequeue::dequeue` meets its contract: an entry that is found is queued, and so fits the lane. Assumes nothing.
use Rattle.std.proofs.Common.{◌<◌, length, rules}
use Rattle.voice.specs.Blank.{blank_entry}
use Rattle.voice.proofs.Formed.{entries_at}
use Rattle.queue.proofs.Least.{found_queued, searched_cut}
use Rattle.dequeue.specs.Dequeue.{dequeued, dequeued_lane}
use Rattle.dequeue.proofs.dequeue.Goals as goal

pub offset_bounds-v-place : goal.offset_bounds-v-place
offset_bounds-v-place c = search (rules, found_queued, searched_cut)

pub bounds-v-place : goal.bounds-v-place
bounds-v-place c = search (rules, found_queued, searched_cut)

pub take-requires-clause-place_lt_queued : goal.take-requires-clause-place_lt_queued
take-requires-clause-place_lt_queued c = search (rules, found_queued, searched_cut)

pub prepare-requires-clause-entry_fits : goal.prepare-requires-clause-entry_fits
unfolding blank_entry
prepare-requires-clause-entry_fits c =
    let v = c.args.v in
    let queued : c.in-Some.place < v.queued = search (rules, found_queued, searched_cut) in
    entries_at (length c.args.lane.now) v c.requires.entries_fit c.in-Some.place queued

pub returns-clause-record : goal.returns-clause-record
unfolding blank_entry dequeued
returns-clause-record c = search (rules, searched_cut)

pub returns-clause-lane : goal.returns-clause-lane
unfolding blank_entry dequeued_lane
returns-clause-lane c = search (rules, searched_cut)
