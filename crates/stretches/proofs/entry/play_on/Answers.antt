-- `stretches::entry::play_on` meets its contract: a rate level with 1.0 is 1.0. Assumes nothing.
use Rattle.std.proofs.Common.{sym, ap, ◌∙◌, rules}
use lib.Ieee.{Float, eq}
use Rattle.numbers.proofs.Literals.{one_64}
use Rattle.steps.proofs.Whole.{one_unique}
use Rattle.track.specs.declared.player.Player.{Player}
use Rattle.track.proofs.Onward.{onward_none, laid_none}
use Rattle.stretches.proofs.entry.play_on.Goals as goal

pub returns-in_default : goal.returns-in_default
returns-in_default c =
    let p = c.args.player in record {
      onward = onward_none _ _ _;
      frame_after = sym (laid_none p.window.bytes.now p.window.base p.lane.now p.track p.cursor c.args.output c.args.frame.now);
    }

pub run-requires-clause-rate : goal.run-requires-clause-rate
run-requires-clause-rate c =
    let rate = c.args.player.track.rate in
    ap (λ (p : Player). p.track.rate) c.in-Some.ensures.same_player
    ∙ one_unique rate (search rules) (ap (λ (y : Float). eq rate y) (sym one_64) ∙ c.if-player.true)
