-- `mix_voice::fade::mix_voice` meets its contract: where no channel is heard the mixes stay as they are. Assumes nothing.
use mathlib.Core.Path.{sym, ◌∙◌}
use native.Mathlib.Omega.{arith}
use Rattle.mix_voice.proofs.Silence.{none_mixed}
use Rattle.mix_voice.proofs.fade.mix_voice.Goals as goal

pub returns-then-all_silent : goal.returns-then-all_silent
returns-then-all_silent c =
    none_mixed c.args.marks c.args.ramp.now c.args.gains.now c.args.frame.now c.args.mixes.now (omega arith)
    (sym c.all_silent.ensures ∙ c.if-all_silent.true) c.ranged.ensures c.ranged-then-all_silent.ensures
