-- `mix_bytes::read_mix` meets its contract: each call of the closure gives the value at its index. Assumes nothing.
use Rattle.std.proofs.Common.{rules, ◌*◌, pos}
use Rattle.numbers.specs.Wrap.{signed32}
use Rattle.little.specs.Little.{at32}
use Rattle.mix_bytes.specs.Mixes.{words_in}
use Rattle.lists.proofs.FromFn.{made}
use Rattle.mix_bytes.proofs.read_mix.Goals as goal

pub returns : goal.returns
unfolding words_in
returns c =
    made _ (λ i. signed32 (at32 c.args.bytes.now (i * 4))) _ 640 (pos 0) (λ i y q lt k. search rules)
    c.from_fn.result c.from_fn.ensures.items
