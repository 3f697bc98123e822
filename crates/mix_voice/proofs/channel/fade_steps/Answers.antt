-- `mix_voice::channel::fade_steps` meets its contract: each call gives the step of its sample. Assumes nothing.
use lib.Ieee.{nan}
use borrow.Author.Rules.{rules}
use Rattle.lists.proofs.FromFn.{made}
use Rattle.mixing.specs.Gain.{progress}
use Rattle.mix_voice.specs.Mixed.{fade_steps}
use Rattle.mix_voice.proofs.channel.fade_steps.Goals as goal

pub returns : goal.returns
unfolding fade_steps
returns c = made _ progress _ 160 nan (λ i y q lt k. search rules) c.from_fn.result c.from_fn.ensures.items
