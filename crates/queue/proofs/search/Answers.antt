-- `queue::search` meets its contract: of the entries with their places the first of least id is picked. Assumes nothing.
use Rattle.std.proofs.Common.{rules, ◌∙◌}
use borrow.Author.Tests.{tests}
use Rattle.std.proofs.lemmas.Iterator.{YieldsList-from_slice}
use Rattle.std.proofs.lemmas.Iterator.Consumers.{YieldsList-at, YieldsList-from_enumerate}
use Rattle.queue.proofs.Picked.{picked, place_of}
use Rattle.queue.proofs.search.Goals as goal

pub returns : goal.returns
returns c =
    let queue = c.args.queue.now in
    place_of _ (λ x k p. search (rules, tests)) c.min_by_key.result c.map.result c.map.ensures.cases
    ∙ picked _ _ _ (λ x r q k. search (rules, tests)) _ queue c.min_by_key.result c.min_by_key.ensures.ran
    (YieldsList-from_enumerate (YieldsList-at c.enumerate.ensures.source (YieldsList-from_slice queue cc)) c.enumerate.ensures.count)
