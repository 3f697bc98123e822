-- `queue::remove` meets its contract: what stands behind the place is put at it, and the last place is blank. Assumes nothing.
use Rattle.std.proofs.Common.{◌≡◌, ◌+◌, ◌≤◌, ◌-◌, List, length, set, ap, ◌∙◌, rules, arith}
use Rattle.voice.specs.Blank.{blank_entry}
use Rattle.voice.specs.Set.{set_voice_queue, set_voice_queued}
use Rattle.voice.specs.declared.record.Entry.{Entry}
use Rattle.queue.specs.Removal.{removed}
use Rattle.queue.proofs.Removal.{without_kept}
use Rattle.queue.proofs.remove.Goals as goal

pub returns : goal.returns
unfolding removed blank_entry
returns c =
    let v = c.args.v in
    let blank : c.default.result ≡ blank_entry = search rules in
    let all : 63 + 1 ≡ length v.queue = search rules in
    let inside : c.args.at ≤ 63 = omega arith in
    ap (λ (l : List Entry). set_voice_queued (v.queued - 1) (set_voice_queue l v))
    ((λ i. set (c.copy_within.ensures.after i) 63 (blank i)) ∙ without_kept v.queue c.args.at 63 all inside)
