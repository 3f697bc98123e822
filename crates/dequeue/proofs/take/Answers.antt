-- `dequeue::take` meets its contract: a looping entry is marked in its place. Assumes nothing.
use Rattle.std.proofs.Common.{set, ap, sym, ◌∙◌}
use Rattle.lists.proofs.Bools.{cond_yes}
use Rattle.voice.specs.Blank.{blank_entry}
use Rattle.voice.specs.Set.{set_voice_queue}
use Rattle.voice.specs.declared.record.Entry.{Entry}
use Rattle.dequeue.specs.Dequeue.{taken}
use Rattle.dequeue.proofs.take.Goals as goal

pub returns-then-e : goal.returns-then-e
unfolding blank_entry taken
returns-then-e c =
    let v = c.args.v in
    ap (λ (e : Entry). set_voice_queue (set v.queue c.args.place e) v) c.mark_played.ensures ∙ sym (cond_yes _ _ c.if-e.true)
