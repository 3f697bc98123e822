-- `adpcm::decode_all` meets its contract: a turn takes one frame off the front of what is left to decode. Assumes nothing.
use lib.ListN.{length}
use Rattle.adpcm.proofs.Frames.{Done}
use Rattle.adpcm.proofs.decode_all.Given as goal

abbrev pub invariant-loop-i : goal.invariant-loop-i
invariant-loop-i l =
    let old = l.initial.samples in
    Done l.coefficients l.initial.history l.data (length old) old l.samples l.last l.i
