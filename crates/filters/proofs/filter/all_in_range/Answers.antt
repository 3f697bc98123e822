-- `filters::filter::all_in_range` meets its contract: the definition recurses as `list_all` does. Assumes nothing.
use mathlib.Core.Path.{refl, ◌∙◌}
use mathlib.Core.Bool.{◌&&◌}
use borrow.Author.Rules.{rules}
use borrow.Author.Tests.{tests}
use Rattle.std.specs.List.{list_all}
use Rattle.std.proofs.lemmas.Iterator.{YieldsList-from_slice}
use Rattle.std.proofs.lemmas.Iterator.Search.{all_from_yields_List}
use Rattle.std.proofs.lemmas.List.Recursion.{same_from_clauses}
use Rattle.filters.specs.Range.{in_range, all_in_range}
use Rattle.filters.proofs.filter.all_in_range.Goals as goal

pub returns : goal.returns
returns c =
    let zs = c.args.zs.now in
    all_from_yields_List in_range _ _ _ c.all.ensures.ran (YieldsList-from_slice zs cc) (λ x b q k. search (rules, tests))
    ∙ same_from_clauses (list_all in_range) all_in_range (λ x r. in_range x && r) refl (λ _ _. refl) (λ _ _. refl) zs
