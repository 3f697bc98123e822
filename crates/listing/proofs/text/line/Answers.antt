-- `listing::text::line` meets its contract: two columns put before a newline. Assumes nothing.
use Rattle.std.proofs.Common.{◌≡◌, ℕ, ◌+◌, List, ◌++◌, length, drop, replicate, sym, ◌∙◌, arith, rules}
use mathlib.Core.List.{append_assoc}
use lib.ListN.{length-append}
use Rattle.lists.specs.Splice.{splice}
use Rattle.lists.proofs.Splice.{splice_is, splice_append}
use Rattle.listing.specs.Text.{newline}
use Rattle.listing.specs.Sizes.{width, line_bytes}
use Rattle.listing.proofs.text.line.Goals as goal

abbrev blank : List ℕ
blank = replicate line_bytes 10

joined : (left right : List ℕ) → length left ≡ width → length right ≡ width
    → splice (splice blank 0 left) width right ≡ left ++ (right ++ newline)
joined left right h k =
    (λ j. splice (splice blank 0 left) (place j) right)
    ∙ sym (splice_append blank 0 left right)
    ∙ splice_is blank 0 (left ++ right) (omega (arith, both))
    ∙ (λ j. (left ++ right) ++ drop (both j) blank)
    ∙ append_assoc left right newline
  where
    place : width ≡ 0 + length left
    place = omega (arith, h)

    both : 0 + length (left ++ right) ≡ 16
    both = omega (arith, length-append left right, h, k)

pub returns : goal.returns
returns c =
    let a = c.args in
    let left : length a.left.now ≡ width = search rules in
    let right : length a.right.now ≡ width = search rules in
    c.put-2.ensures ∙ (λ j. splice (c.put.ensures j) width a.right.now) ∙ joined a.left.now a.right.now left right
