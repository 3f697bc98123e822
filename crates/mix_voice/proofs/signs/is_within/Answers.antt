-- `mix_voice::signs::is_within` meets its contract. Assumes nothing.
use mathlib.Core.Path.{sym, ◌∙◌}
use lib.Ieee.{le}
use Rattle.lists.proofs.Bools.{and_yes, and_no}
use Rattle.mix_voice.specs.Quick.{within}
use Rattle.mix_voice.proofs.signs.is_within.Goals as goal

pub returns-then-gain-most : goal.returns-then-gain-most
unfolding within
returns-then-gain-most c = sym (and_yes (le c.args.gain c.args.most) c.if-gain-most.true)

pub returns-else-gain-most : goal.returns-else-gain-most
unfolding within
returns-else-gain-most c = c.if-gain-most.false ∙ sym (and_no (le c.args.gain c.args.most) c.if-gain-most.false)
