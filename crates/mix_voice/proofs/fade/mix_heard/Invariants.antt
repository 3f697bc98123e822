-- `mix_voice::fade::mix_heard` meets its contract: after so many turns the values of so many channels have their parts added. Assumes
-- nothing.
use Prim.Native.Nat.{◌*◌}
use Rattle.numbers.specs.Sizes.{FRAME_SAMPLES}
use Rattle.mix_voice.specs.Mixed.{ramped_at, Summed}
use Rattle.mix_voice.proofs.fade.mix_heard.Given as goal

abbrev pub invariant-loop-number : goal.invariant-loop-number
invariant-loop-number l = Summed (ramped_at l.marks l.ramp l.gains l.frame) 0 (l.number * FRAME_SAMPLES) l.initial.mixes l.mixes
