-- `numbers::casts::cast_clamped` meets its contract. Assumes nothing.
use Rattle.std.proofs.Common.{sym, ◌∙◌, w16}
use Rattle.numbers.proofs.Bounds.{result_read}
use Rattle.numbers.proofs.Holding.{clamped_cast}
use Rattle.numbers.proofs.casts.cast_clamped.Goals as goal

pub returns : goal.returns
returns c = result_read w16 c.cast16.result c.cast16.type_inv ∙ c.cast16.ensures ∙ sym (clamped_cast c.args.x)
