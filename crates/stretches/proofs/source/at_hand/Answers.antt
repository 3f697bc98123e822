-- `stretches::source::at_hand` meets its contract: of an entry that is at hand every sample is held. Assumes nothing.
use Rattle.std.proofs.Common.{sym, ◌∙◌, rules}
use Rattle.stretches.proofs.Ready.{ready_holds}
use Rattle.stretches.proofs.source.at_hand.Goals as goal

pub invariant_of-source : goal.invariant_of-source
invariant_of-source c =
    let p = c.args.player in record {
      holds = ready_holds p.window.bytes.now p.window.base p.lane.now p.track c.entry_bytes-bytes.result.now c.in_ok-e.e p.in_lane
          (record {
            playing = search rules;
            whole = c.if-e-player.false;
            bytes_are = c.entry_bytes-bytes.ensures;
            held = sym c.is_held.ensures ∙ c.if-not-is_held.false;
          });
    }
