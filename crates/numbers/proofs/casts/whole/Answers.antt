-- `numbers::casts::whole` meets its contract. Assumes nothing.
use Rattle.std.proofs.Common.{ap, ◌∙◌}
use lib.Ieee.{Float, add, sub}
use Rattle.numbers.proofs.Holding.{whole_is}
use Rattle.numbers.proofs.casts.whole.Goals as goal

pub returns : goal.returns
returns g c =
    let r = g.met.F.Real in
    let o = r.operates in
    let float = g.F.Real.float in
    let f = g.F.Real.format in
    let big = ap float c.BIG.ensures in
    let near =
    o.difference_is _ _ _ c.sub-near.ensures
    ∙ (λ i. sub f ((o.sum_is _ _ _ c.add.ensures ∙ ap (λ (b : Float). add f (float c.args.a) b) big) i) (float (c.BIG-2.ensures i)))
    in
    o.difference_is _ _ _ c.sub.ensures ∙ whole_is r.shape _ _ _ _ c.requires r.numbers.big_is near c.one_above.ensures
