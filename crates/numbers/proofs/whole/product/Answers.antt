-- `numbers::whole::product` meets its contract. Assumes nothing.
use Rattle.std.proofs.Common.{w64}
use Rattle.numbers.proofs.Bounds.{is_mul, is_read, is_wide}
use Rattle.numbers.proofs.whole.product.Goals as goal

pub returns : goal.returns
returns c =
    is_read w64 (is_mul (is_read w64 (is_wide c.ranges.a c.from.ensures) tt) (is_read w64 (is_wide c.ranges.b c.from-2.ensures) tt)) tt
