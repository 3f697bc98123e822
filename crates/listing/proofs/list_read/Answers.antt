-- `listing::list_read` meets its contract: what is listed is an input cut after as many bytes as the buffer holds. Assumes nothing.
use mathlib.Core.Path.{◌≡◌, ap, ◌∙◌, subst}
use mathlib.Core.List.{List, ◌++◌}
use Prim.Native.Nat.{ℕ}
use native.Mathlib.Omega.{arith}
use lib.ListN.{length, take, drop}
use Rattle.listing.specs.Listing.{read_of, listed}
use Rattle.listing.specs.Laws.{Bytes}
use Rattle.listing.proofs.Cut.{bytes_take, read_listed}
use Rattle.listing.proofs.list_read.Goals as goal

listed_alike : (buffer input : List ℕ) (got : ℕ) → Bytes buffer → take got buffer ≡ read_of input → listed (take got buffer) ≡ listed input
listed_alike buffer input got b e = ap listed e ∙ read_listed input (subst Bytes e (bytes_take got buffer b))

bytes : (c : goal.After-listing) → Bytes c.args.buffer.now
bytes c i = omega (arith, c.type_inv.buffer i)

-- what the bytes read are listed as, any input of which they were read is
alike : (c : goal.After-listing) (input : List ℕ) → let a = c.args in
    take a.got a.buffer.now ≡ read_of input → listed (take a.got a.buffer.now) ≡ listed input
alike c input e = let a = c.args in
    listed_alike a.buffer.now input a.got (bytes c) e

pub returns : goal.returns
returns c =
    let a = c.args in record {
      length = λ input e. c.listing.ensures.length ∙ ap length (alike c input e);
      output = λ input e. c.listing.ensures.output ∙ ap (λ (l : List ℕ). l ++ drop c.listing.result a.output.now) (alike c input e);
      within = c.listing.ensures.within;
    }
