-- `stretches::noted::all_zero` meets its contract: each fraction passes the test. Assumes nothing.
use Rattle.std.proofs.Common.{sym, ◌∙◌, rules}
use borrow.Author.Tests.{tests}
use Rattle.std.proofs.lemmas.Iterator.{YieldsList-from_slice}
use Rattle.std.proofs.lemmas.Iterator.Search.{all_from_yields_List}
use lib.Ieee.{eq}
use Rattle.numbers.specs.Literals.{+0}
use Rattle.numbers.proofs.Literals.{zero_64}
use Rattle.stretches.proofs.Noting.{zero_listed}
use Rattle.stretches.proofs.noted.all_zero.Goals as goal

pub returns : goal.returns
returns c =
    let fractions = c.args.fractions.now in
    all_from_yields_List (λ f. eq f +0) _ _ _ c.all.ensures.ran (YieldsList-from_slice fractions cc)
    (λ x b q k. search (rules, tests, zero_64))
    ∙ sym (zero_listed fractions)
