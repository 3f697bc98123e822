-- `listing::table::put_tables` meets its contract: the lines put one after the other. Assumes nothing.
use Rattle.std.proofs.Common.{◌≡◌, ◌∙◌, ◌+◌, ◌*◌, length, arith, rules}
use mir.Syntax.{w16}
use mir.Val.{SFits}
use Rattle.listing.specs.Sizes.{line_bytes}
use Rattle.listing.proofs.Decimals.{shown}
use Rattle.listing.proofs.Puts.{put_more, put_text, put_row}
use Rattle.listing.proofs.table.put_tables.Goals as goal

pub returns-clause-tables : goal.returns-clause-tables
returns-clause-tables c =
    let yn1 : SFits w16 c.args.h.yn1 = search rules in
    let yn2 : SFits w16 c.args.h.yn2 = search rules in
    let first : length c.line-headings.result ≡ line_bytes = search rules in
    let second : length c.line-headings-2.result ≡ line_bytes = search rules in
    let third : length c.line.result ≡ line_bytes = search rules in
    let at = (length c.args.samples.now + 1) * line_bytes in
    let samples = put_text {e = line_bytes} (put_row c.line-headings.ensures c.column.ensures c.column-2.ensures) c.put.ensures
    (omega (arith, first)) in
    let headings = put_text {e = at + line_bytes} (put_row c.line-headings-2.ensures c.column-3.ensures c.column-4.ensures)
    c.put-2.ensures (omega (arith, second)) in
    let history =
    put_text {e = at + 2 * line_bytes} (put_row c.line.ensures (c.signed-newer.ensures ∙ shown yn1) (c.signed-older.ensures ∙ shown yn2))
    c.put-3.ensures (omega (arith, third)) in
    put_more (put_more samples c.put_rows.ensures) (put_more headings history)
