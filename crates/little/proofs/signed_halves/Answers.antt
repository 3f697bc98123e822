-- `little::signed_halves` meets its contract: each call of the closure gives the number at its index. Assumes nothing.
use Rattle.std.proofs.Common.{rules, ◌*◌, pos}
use Rattle.lists.proofs.FromFn.{made}
use Rattle.numbers.specs.Wrap.{signed16}
use Rattle.little.specs.Little.{at16}
use Rattle.little.proofs.signed_halves.Goals as goal

pub returns : goal.returns
returns g c =
    made _ (λ i. signed16 (at16 c.args.bytes.now (i * 2))) _ g.row.N (pos 0) (λ i y q lt k. search rules) c.from_fn.result
    c.from_fn.ensures.items
