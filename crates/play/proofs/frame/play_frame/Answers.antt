-- `play::frame::play_frame` meets its contract: a record is as well-formed when its silent frame begins. Assumes nothing.
use Rattle.std.proofs.Common.{length, sym, subst}
use Rattle.voice.specs.Malformed.{WellFormed}
use Rattle.play.proofs.Going.{opened_formed}
use Rattle.play.proofs.frame.play_frame.Goals as goal

pub be_silent-requires-clause-well_formed : goal.be_silent-requires-clause-well_formed
be_silent-requires-clause-well_formed c =
    let long = length c.args.lane.now in
    subst (WellFormed long) (sym c.open.ensures) (opened_formed long c.args.v c.requires.well_formed)
