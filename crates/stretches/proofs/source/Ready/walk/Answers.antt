-- `stretches::source::Ready::walk` meets its contract: what a walk notes is where the cursors are. Assumes nothing.
use Rattle.std.proofs.Common.{◌∙◌, rules}
use Rattle.stretches.proofs.Noting.{noted_stored}
use Rattle.stretches.proofs.Playing.{plays_on}
use Rattle.stretches.proofs.source.Ready.walk.Goals as goal

pub returns : goal.returns
returns c =
    let s = c.args.self.source in
    let p = c.args.self.player in
    let walked = c.walk-reached.ensures in
    plays_on c.args.self c.args.output c.args.frame.now _ c.walk-reached.result walked.stretched
    (c.play.ensures
    ∙ noted_stored s.lane.now s.bytes.now s.played p.track p.cursor _ _ c.args.output c.walk-reached.result.count c.args.frame.now
    (search rules) walked.walked)
