-- `listing::listing` meets its contract: what was put from the first place on is the listing, and the rest is as it was. Assumes nothing.
use mathlib.Core.Path.{◌≡◌, sym, ap, ◌∙◌, subst}
use mathlib.Core.Bool.{false}
use mathlib.Core.List.{List, ◌++◌}
use Prim.Native.Nat.{ℕ, ◌+◌, ◌≤◌, ◌<◌}
use native.Mathlib.Omega.{arith}
use lib.ListN
use lib.ListN.{length, take, drop, replicate, length-append}
use Rattle.std.proofs.Common.{take-append-drop}
use borrow.Author.Tests.{ne_eqb}
use Rattle.lists.proofs.Bools.{cond_no}
use Rattle.lists.proofs.Splice.{splice_is}
use Rattle.listing.specs.Text.{decimal}
use Rattle.listing.specs.Sizes.{header, frame_bytes, output_room}
use Rattle.listing.specs.Inner.{Put}
use Rattle.listing.specs.Listing.{count_in, complete, tables_of, only_nine, listed}
use Rattle.listing.proofs.Header.{same_count}
use borrow.Author.Rules.{rules}
use Rattle.listing.proofs.listing.Goals as goal

-- what a listing promises of its result and of its output
abbrev Listed : List ℕ → List ℕ → List ℕ → ℕ → Type 0
Listed input old new r = record {
  length : r ≡ ListN.length (listed input);
  output : new ≡ listed input ++ drop r old;
  within : r ≤ ListN.length new;
}

-- the listing, put from the first place on
put_listed : (input old new : List ℕ) (r : ℕ) → Put old 0 (listed input) new r → r ≤ output_room → length old ≡ output_room
    → Listed input old new r
put_listed input old new r p h k =
    record {
      length = after;
      output = begins;
      within = omega (arith, after, ap length begins, length-append (listed input) (drop r old));
    }
  where
    after : r ≡ length (listed input)
    after = omega (arith, p.after)

    begins : new ≡ listed input ++ drop r old
    begins = p.stored ∙ splice_is old 0 (listed input) (omega (arith, p.after)) ∙ (λ j. listed input ++ drop (sym p.after j) old)

-- an input that is not complete
nine_listed :
    (input old new : List ℕ) (r : ℕ) → (length input ≡ header + frame_bytes (count_in input) → ⊥) → Put old 0 only_nine new r
    → length old ≡ output_room → Listed input old new r
unfolding decimal listed
nine_listed input old new r other p k =
    put_listed input old new r (subst (λ (text : List ℕ). Put old 0 text new r) (sym (cond_no (tables_of input) only_nine early)) p)
    (omega (arith, p.after)) k
  where
    early : complete input ≡ false
    early = ne_eqb (length input) (header + frame_bytes (count_in input)) other

pub returns-in_default : goal.returns-in_default
returns-in_default c =
    let a = c.args in
    let room : length a.output.now ≡ output_room = search rules in
    let short : length a.input.now < header = rw c.in_default.is at c.split_first_chunk.ensures.cases in
    nine_listed a.input.now a.output.now c.put_nine.new.output c.put_nine.result (λ e. omega arith)
    c.put_nine.ensures room

-- a header and what follows it
module _ (input first frames : List ℕ) (h : first ≡ take header input) (k : frames ≡ drop header input) where
  whole : first ++ frames ≡ input
  whole = (λ j. h j ++ k j) ∙ take-append-drop header input

  -- frames of another length than the count's
  other : length first ≡ header → (length frames ≡ frame_bytes (count_in first) → ⊥)
      → length input ≡ header + frame_bytes (count_in input) → ⊥
  other l differ e = differ (omega (arith, e, ap length (sym whole), length-append first frames, l, ap frame_bytes same))
    where
      same : count_in first ≡ count_in input
      same = same_count first frames l ∙ ap count_in whole

pub returns-then-frames-whole : goal.returns-then-frames-whole
returns-then-frames-whole c =
    let a = c.args in
    let parts = c.in-Some.ensures.cases in
    let room : length a.output.now ≡ output_room = search rules in
    let long : length c.in-Some.header.now ≡ header = search rules in
    let n = c.put_nine-then-frames-whole in
    nine_listed a.input.now a.output.now n.new.output n.result
    (other a.input.now c.in-Some.header.now c.in-Some.frames.now parts.0 parts.1 long
    (λ e. omega (arith, e, c.if-frames-whole.true, c.bytes_of-whole.ensures, ap frame_bytes c.count.ensures.value)))
    n.ensures room

pub returns : goal.returns
returns c =
    let d = c.put_decoded in
    let a = c.args in
    let input = a.input.now in
    let room : length a.output.now ≡ output_room = search rules in
    let parts = c.in-Some.ensures.cases in
    put_listed input a.output.now d.new.output d.result
    (subst (λ (i : List ℕ). Put a.output.now 0 (listed i) d.new.output d.result)
    (whole input c.in-Some.header.now c.in-Some.frames.now parts.0 parts.1) d.ensures.put)
    d.ensures.next room
