-- `listing::text::column` meets its contract: a text put at the end of spaces. Assumes nothing.
use Rattle.std.proofs.Common.{◌≡◌, ℕ, ◌+◌, ◌-◌, ◌≤◌, List, [], ◌++◌, length, drop, replicate, ap, ◌∙◌, arith}
use Rattle.std.proofs.lemmas.List.{append-nil, length-replicate, take-replicate}
use Rattle.lists.specs.Splice.{splice}
use Rattle.lists.proofs.Splice.{splice_is}
use Rattle.lists.proofs.Walk.{drop_end}
use Rattle.listing.specs.Text.{column}
use Rattle.listing.specs.Sizes.{width}
use Rattle.listing.proofs.text.column.Goals as goal

abbrev blank : List ℕ
blank = replicate width 32

justified : (text : List ℕ) → length text ≤ width → splice blank (width - length text) text ≡ column width text
justified text h =
    splice_is blank n text (omega (arith, long))
    ∙ (λ j. take-replicate n width 32 (omega arith) j ++ (text ++ none j))
    ∙ ap (λ (l : List ℕ). replicate n 32 ++ l) (append-nil text)
  where
    n : ℕ
    n = width - length text

    long : length blank ≡ width
    long = let space : ℕ = 32 in length-replicate width space

    none : drop (n + length text) blank ≡ []
    none = drop_end blank (n + length text) (omega (arith, long))

pub returns : goal.returns
returns c = c.put.ensures ∙ justified c.args.text.now c.requires
