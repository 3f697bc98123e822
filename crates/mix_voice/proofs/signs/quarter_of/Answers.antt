-- `mix_voice::signs::quarter_of` meets its contract: the code's literals are the quarters. Assumes nothing.
use mathlib.Core.Path.{sym, ◌∙◌}
use Rattle.lists.proofs.Bools.{cond_yes, cond_no}
use Rattle.mix_voice.specs.Quick.{+¼, -¼}
use Rattle.mix_voice.proofs.Product.{quarter_32, minus_quarter_32}
use Rattle.mix_voice.proofs.signs.quarter_of.Goals as goal

pub returns-then-negative : goal.returns-then-negative
returns-then-negative c = minus_quarter_32 ∙ sym (cond_yes -¼ +¼ c.if-negative.true)

pub returns-else-negative : goal.returns-else-negative
returns-else-negative c = quarter_32 ∙ sym (cond_no -¼ +¼ c.if-negative.false)
