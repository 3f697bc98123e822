-- `play::entry::play_plain` meets its contract. The invariant: `n` samples were produced and laid into the frame, and something remains.
-- Assumes nothing.
use Rattle.std.proofs.Common.{◌≡◌, ◌-◌, ◌≤◌}
use Rattle.track.specs.Laid.{laid, Onward}
use Rattle.play.proofs.entry.play_plain.Given as goal

abbrev pub invariant-loop-n : goal.invariant-loop-n
invariant-loop-n l = record {
  far : Onward l.player.track l.player.cursor (160 - l.output) (record { cursor = l.cursor; count = l.n });
  laid_in :
      l.frame
      ≡ laid l.player.window.bytes.now l.player.window.base l.player.lane.now l.player.track l.player.cursor l.output l.n l.initial.frame;
  remains : l.cursor.remaining ≤ l.player.track.length;
}
