-- `queueing::push::push_entries` meets its contract. The invariant: the entries passed are queued. Assumes nothing.
use Rattle.std.proofs.Common.{sym, ap, ◌∙◌, arith}
use Rattle.voice.specs.Blank.{blank_entry}
use Rattle.voice.specs.declared.record.Voice.{Voice}
use Rattle.queueing.specs.Queue.{pushed}
use Rattle.queueing.proofs.Pushing.{pushed_none, pushed_more}
use Rattle.queueing.proofs.push.push_entries.Goals as goal

pub loop-e-init : goal.loop-e-init
loop-e-init c = record { count = omega arith; passed = sym (pushed_none c.args.v) }

pub loop-e-preserved : goal.loop-e-preserved
unfolding blank_entry pushed
loop-e-preserved c =
    let l = c.loop-e in record {
      count = omega (arith, ap (λ (w : Voice). w.queued) c.push-v.ensures);
      passed = c.push-v.ensures ∙ pushed_more c.args.entries.now l.e-index blank_entry c.args.v l.v (omega arith) l.invariant.passed;
    }
