-- `adpcm::Header::decode` meets its contract: after i turns the samples of i bytes stand, two for each. Assumes nothing.
use Prim.Native.Nat.{◌*◌}
use lib.ListN.{length, take}
use Rattle.adpcm.specs.Code.{codes_by}
use Rattle.adpcm.proofs.Runs.{Done}
use Rattle.adpcm.proofs.Header.decode.Given as goal

abbrev pub invariant-loop-i : goal.invariant-loop-i
invariant-loop-i l =
    let n = length l.initial.samples in
    Done l.initial.history (take n (codes_by l.self.exponent l.self.c1 l.self.c2 l.frame)) l.initial.samples l.samples l.history (l.i * 2)
