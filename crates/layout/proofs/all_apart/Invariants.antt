-- `layout::all_apart` meets its contract: what the definition says of the places that are left is what it says of all. Assumes nothing.
use Rattle.std.proofs.Common.{◌≡◌, length}
use Rattle.layout.specs.Places.{apart}
use Rattle.layout.proofs.all_apart.Given as goal

abbrev pub invariant-loop-first : goal.invariant-loop-first
invariant-loop-first l = apart l.places ≡ apart l.rest

abbrev pub decreases-loop-first : goal.decreases-loop-first
decreases-loop-first l = length l.rest
