-- `little::put` meets its contract: a part lent on and come back as the bytes is a splice. Assumes nothing.
use mathlib.Core.Path.{refl}
use lib.ListN.{length}
use Rattle.lists.proofs.Splice.{called_is_splice}
use Rattle.little.proofs.put.Goals as goal

pub returns : goal.returns
returns c =
    let a = c.args in
    let w = c.copy_from_slice in
    called_is_splice a.s.now w.new.self a.bytes.now a.at (length a.bytes.now) c.requires w.ensures.after refl
