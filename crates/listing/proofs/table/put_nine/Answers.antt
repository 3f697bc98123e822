-- `listing::table::put_nine` meets its contract: two texts put one after the other. Assumes nothing.
use Rattle.std.proofs.Common.{◌≡◌, length, ap, ◌∙◌, refl, arith, rules}
use Rattle.listing.specs.Text.{decimal, column}
use Rattle.listing.specs.Sizes.{width}
use Rattle.listing.proofs.Decimals.{same_decimal, index_narrow}
use Rattle.listing.proofs.Puts.{put_more, put_text}
use Rattle.listing.proofs.table.put_nine.Goals as goal

pub number-requires-2 : goal.number-requires-2
number-requires-2 c = index_narrow c.from.result (omega (arith, c.from.ensures, c.number.ensures))

pub returns : goal.returns
returns c =
    let nine : c.from.result ≡ 9 = c.from.ensures ∙ c.number.ensures in
    let long : length c.number-2.result ≡ width = search rules in
    put_more
    (put_text
    (c.number-2.ensures ∙ ap (column width) (same_decimal c.from.result (omega (arith, nine)) ∙ ap decimal nine))
    c.put.ensures (omega (arith, long)))
    (put_text refl c.put-2.ensures (omega arith))
