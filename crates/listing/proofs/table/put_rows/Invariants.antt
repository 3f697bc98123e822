-- `listing::table::put_rows` meets its contract: a turn takes one line off the front of those left to put. Assumes nothing.
use mathlib.Core.Path.{◌≡◌}
use mathlib.Core.List.{List}
use Prim.Native.Nat.{ℕ, ◌+◌, ◌*◌, ◌≤◌}
use lib.IntN.{ℤ}
use lib.ListN.{length, drop}
use Rattle.listing.specs.Sizes.{line_bytes}
use Rattle.listing.specs.Inner.{Put}
use Rattle.listing.specs.Listing.{rows}
use Rattle.listing.proofs.table.put_rows.Given as goal

-- the head of the loop: with the lines that are left, all lines stand where they belong
pub record Lining (samples : List ℤ) (old out : List ℕ) (i : ℕ) : Type 0 where
  pub reach : i ≤ length samples
  pub same : length out ≡ length old
  pub rest : {new : List ℕ} {e : ℕ} → Put out ((i + 1) * line_bytes) (rows i (drop i samples)) new e
      → Put old line_bytes (rows 0 samples) new e

abbrev pub invariant-loop-i : goal.invariant-loop-i
invariant-loop-i l = Lining l.samples l.initial.output l.output l.i
