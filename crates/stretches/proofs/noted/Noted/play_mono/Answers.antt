-- `stretches::noted::Noted::play_mono` meets its contract: the second pass is over the pairs that the first stored. Assumes nothing.
use Rattle.std.proofs.Common.{length, ◌∙◌, rules, arith}
use Rattle.stretches.specs.Stored.{pair_at, pair_blend}
use Rattle.stretches.proofs.Noting.{pairs_between}
use Rattle.stretches.proofs.noted.Noted.play_mono.Goals as goal

pub returns : goal.returns
returns c =
    let n = c.args.self.now in
    let s = n.source in
    let pairs = c.store.ensures (pair_at s.lane.now s.bytes.now s.played n.places.now) (λ i lt r p. search rules) in
    let last = c.store-2.ensures (pair_blend c.store.new.frame n.fractions.now) (λ i lt r p. search rules) in
    last
    ∙ pairs_between s.lane.now s.bytes.now s.played n.places.now n.fractions.now c.args.output (length n.places.now) c.args.frame.now
    (omega arith) _ _ (search rules) pairs c.requires.mono
