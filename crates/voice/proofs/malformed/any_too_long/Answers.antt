-- `voice::malformed::any_too_long` meets its contract: `any` passes the test of the definition over the entries. Assumes nothing.
use Rattle.std.proofs.Common.{◌||◌, ◌∙◌, refl, rules, tests}
use Rattle.std.specs.List.{list_any}
use Rattle.std.proofs.lemmas.Iterator.{YieldsList-from_slice}
use Rattle.std.proofs.lemmas.Iterator.Search.{any_from_yields_List}
use Rattle.std.proofs.lemmas.List.Recursion.{same_from_clauses}
use Rattle.voice.specs.Long.{too_long, any_too_long}
use Rattle.voice.proofs.malformed.any_too_long.Goals as goal

pub returns : goal.returns
returns c =
    let test = too_long c.args.lane in
    any_from_yields_List test _ _ _ c.any.ensures.ran (YieldsList-from_slice c.args.entries.now cc) (λ x b q k. search (rules, tests))
    ∙ same_from_clauses (list_any test) (any_too_long c.args.lane) (λ x b. test x || b) refl (λ _ _. refl) (λ _ _. refl) c.args.entries.now
