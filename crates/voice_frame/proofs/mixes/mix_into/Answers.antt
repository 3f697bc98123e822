-- `voice_frame::mixes::mix_into` meets its contract, by whether the voice is enabled. Assumes nothing.
use mathlib.Core.Path.{◌∙◌}
use Rattle.voice_frame.proofs.Parts.{mixed_on, mixed_off}
use Rattle.voice_frame.proofs.mixes.mix_into.Goals as goal

pub returns-then-v : goal.returns-then-v
returns-then-v c = c.mix_voice.ensures ∙ mixed_on c.args.v.now c.args.mixes.now c.if-v.true

pub returns-else-v : goal.returns-else-v
returns-else-v c = mixed_off c.args.v.now c.args.mixes.now c.if-v.false c.told-mixes c.ranged.ensures
