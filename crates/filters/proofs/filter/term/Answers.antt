-- `filters::filter::term` meets its contract: both numbers are in range, which bounds their product. Assumes nothing.
use mir.Syntax.{w64}
use Rattle.numbers.proofs.Bounds.{is_mul, is_read, is_wide}
use Rattle.filters.proofs.Ranges.{narrow}
use Rattle.filters.proofs.filter.term.Goals as goal

pub returns : goal.returns
returns c =
    is_read w64
    (is_mul (is_read w64 (narrow c.requires.a_in_range (is_wide c.ranges.a c.from.ensures)) tt)
    (is_read w64 (narrow c.requires.x_in_range (is_wide c.ranges.x c.from-2.ensures)) tt)) tt
