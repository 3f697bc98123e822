-- `play::frame::play_entries` meets its contract. The invariant is `Going`, of the frame that the call began: so many samples of the
-- definition were gone through. Assumes nothing.
use Prim.Native.Nat.{◌-◌}
use lib.ListN.{length}
use Rattle.play.specs.Play.{entering}
use Rattle.play.proofs.Going.{Going}
use Rattle.play.proofs.frame.play_entries.Given as goal

abbrev pub invariant-loop-output : goal.invariant-loop-output
invariant-loop-output l =
    Going l.window.bytes.now l.window.base (entering l.fn.v l.fn.lane) (length l.fn.lane) l.lane l.frame l.v l.output

abbrev pub decreases-loop-output : goal.decreases-loop-output
decreases-loop-output l = 160 - l.output
