-- `stretches::store::store` meets its contract: a turn stores one sample more. Assumes nothing.
use Rattle.std.proofs.Common.{refl}
use Rattle.stretches.proofs.Storing.{stored_none, stored_turn}
use Rattle.stretches.proofs.store.store.Goals as goal

pub loop-i-init : goal.loop-i-init
loop-i-init g c = λ given h. stored_none given c.args.output c.args.frame.now

pub loop-i-preserved : goal.loop-i-preserved
loop-i-preserved g c =
    λ given h.
    stored_turn given c.args.output c.args.frame.now c.loop-i.i _ _ _ _ refl (c.loop-i.invariant given h)
    (h c.loop-i.i c.loop-i-test.true c.sound.result c.sound.ensures) c.put.ensures
