-- `mixer_frame::send` meets its contract: where the bus is on, what was put is what the contract says. Assumes nothing.
use Rattle.std.proofs.Common.{sym, ◌∙◌}
use Rattle.lists.proofs.Bools.{cond_yes}
use Rattle.mix_bytes.specs.Mixes.{word_bytes}
use Rattle.mixer_frame.proofs.send.Goals as goal

pub returns-then-on : goal.returns-then-on
unfolding word_bytes
returns-then-on c = c.put_values.ensures ∙ sym (cond_yes _ _ c.if-on.true)
