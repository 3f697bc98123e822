-- `listing::text::signed` meets its contract: digits that end a column of spaces, and before those of a negative number a minus. Assumes
-- nothing.
use Rattle.std.proofs.Common.{◌≡◌, ℕ, ◌∷◌, ◌∙◌, sym, ap, arith, to_z-of_z, int_lt, unsigned_abs}
use lib.IntN.{ℤ, pos}
use Rattle.std.specs.Fmt.{decimal}
use Rattle.listing.specs.Text.{column}
use Rattle.listing.specs.Sizes.{width}
use Rattle.listing.proofs.Columns as columns
use Rattle.listing.proofs.Decimals.{few_digits, plain, minus}
use Rattle.listing.proofs.text.signed.Goals as goal

pub write_digits-first-requires : goal.write_digits-first-requires
write_digits-first-requires c =
    let few = few_digits c.from.result (omega (arith, c.from.ensures, c.unsigned_abs.ensures.bound)) in
    (omega (arith, few.1), omega arith)

pub overflow_sub-column : goal.overflow_sub-column
overflow_sub-column c =
    let few = few_digits c.from.result (omega (arith, c.from.ensures, c.unsigned_abs.ensures.bound)) in
    omega (arith, few.1, c.write_digits-first.ensures.start)

pub returns-then-n-lt0 : goal.returns-then-n-lt0
returns-then-n-lt0 c =
    let w = c.write_digits-first in
    let back = to_z-of_z c.ranges.n in
    let few = few_digits c.from.result (omega (arith, c.from.ensures, c.unsigned_abs.ensures.bound)) in
    let value : c.from.result ≡ unsigned_abs c.args.n = c.from.ensures ∙ c.unsigned_abs.ensures.value ∙ ap unsigned_abs back in
    columns.signed _ _ _ w.ensures.start w.ensures.written w.ensures.before 45 (omega (arith, few.1, w.ensures.start)) few.0
    ∙ ap (column width)
    (ap (λ (n : ℕ). 45 ∷ decimal n) value ∙ minus c.args.n (ap (λ (z : ℤ). int_lt z (pos 0)) (sym back) ∙ c.if-n-lt0.true))

pub returns-else-n-lt0 : goal.returns-else-n-lt0
returns-else-n-lt0 c =
    let w = c.write_digits-first in
    let back = to_z-of_z c.ranges.n in
    let value : c.from.result ≡ unsigned_abs c.args.n = c.from.ensures ∙ c.unsigned_abs.ensures.value ∙ ap unsigned_abs back in
    columns.justified _ _ _ w.ensures.start w.ensures.written w.ensures.before
    ∙ ap (column width) (ap decimal value ∙ plain c.args.n (ap (λ (z : ℤ). int_lt z (pos 0)) (sym back) ∙ c.if-n-lt0.false))
