-- `little::part_at` meets its contract: the part of the slice, as an array, is that part. Assumes nothing.
use Rattle.std.proofs.Common.{◌∙◌}
use Rattle.lists.proofs.Splice.{lent_is}
use Rattle.little.proofs.part_at.Goals as goal

pub returns : goal.returns
returns g c =
    let array = rw c.unwrap.ensures at c.as_array.ensures.cases in
    array.same ∙ lent_is c.args.at g.row.N c.args.values.now
