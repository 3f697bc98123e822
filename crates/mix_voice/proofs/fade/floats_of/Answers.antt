-- `mix_voice::fade::floats_of` meets its contract: each call of the closure gives the float of its sample. Assumes nothing.
use Prim.Native.Nat.{◌+◌, ◌*◌}
use lib.IntN.{pos}
use lib.Ieee.{nan}
use lib.ListN.{get_or}
use borrow.Author.Rules.{rules}
use Rattle.lists.proofs.FromFn.{made}
use Rattle.numbers.specs.Casts.{single}
use Rattle.mix_voice.specs.Mixed.{floats_of}
use Rattle.mix_voice.proofs.fade.floats_of.Goals as goal

pub returns : goal.returns
unfolding floats_of
returns c =
    made _ (λ i. single (get_or c.args.frame.now (i * 2 + c.args.side) (pos 0))) _ 160 nan (λ i y q lt k. search rules) c.from_fn.result
    c.from_fn.ensures.items
