-- `listing::text::number` meets its contract: digits that end a column of spaces. Assumes nothing.
use Rattle.listing.proofs.Columns.{justified}
use Rattle.listing.proofs.text.number.Goals as goal

pub returns : goal.returns
returns c = let w = c.write_digits in justified _ _ _ w.ensures.start w.ensures.written w.ensures.before
