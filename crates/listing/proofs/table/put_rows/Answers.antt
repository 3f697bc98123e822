-- `listing::table::put_rows` meets its contract: a turn takes one line off the front of those left to put. Assumes nothing.
use mathlib.Core.Path.{◌≡◌, refl, sym, ap, ◌∙◌, subst}
use mathlib.Core.List.{List, []}
use Prim.Native.Nat.{ℕ, ◌+◌, ◌*◌, ◌≤◌, ◌<◌}
use native.Mathlib.Omega.{arith}
use lib.IntN.{ℤ, pos}
use lib.ListN.{length, drop, get_or}
use mir.Syntax.{w16}
use mir.Val.{SFits}
use borrow.Author.Rules.{rules}
use Rattle.lists.specs.Splice.{splice}
use Rattle.lists.proofs.Splice.{length_splice}
use Rattle.lists.proofs.Walk.{drop_next, drop_end}
use Rattle.listing.specs.Text.{column, decimal, signed_decimal}
use Rattle.listing.specs.Sizes.{width, line_bytes}
use Rattle.listing.specs.Inner.{Put}
use Rattle.listing.specs.Listing.{row, rows}
use Rattle.listing.proofs.Decimals.{same_decimal, index_narrow, shown}
use Rattle.listing.proofs.Puts.{put_more, put_text, put_row}
use Rattle.listing.proofs.table.put_rows.Invariants.{Lining}
use Rattle.listing.proofs.table.put_rows.Goals as goal

module _ (samples : List ℤ) (old : List ℕ) where
  start : Lining samples old old 0
  start = record { reach = omega arith; same = refl; rest = λ p. p }

  -- a turn put the line of the sample at i
  turn : (out : List ℕ) (i : ℕ) → Lining samples old out i → i < length samples
      → {line new : List ℕ} → line ≡ row (decimal i) (signed_decimal (get_or samples i (pos 0))) → length line ≡ line_bytes
      → new ≡ splice out ((i + 1) * line_bytes) line → Lining samples old new (i + 1)
  turn out i w h {line} {new} e k p = record {
    reach = omega arith;
    same = ap length p ∙ length_splice out ((i + 1) * line_bytes) line ∙ w.same;
    rest = λ {new = n} {e = m} z. w.rest
        (subst (λ (l : List ℕ). Put out ((i + 1) * line_bytes) l n m) (ap (rows i) (sym (drop_next samples i (pos 0) h)))
        (put_more (put_text {e = (i + 1 + 1) * line_bytes} e p (omega arith)) z));
  }

  finish : (out : List ℕ) (i : ℕ) → Lining samples old out i → length samples ≤ i
      → Put old line_bytes (rows 0 samples) out ((length samples + 1) * line_bytes)
  unfolding splice
  finish out i w h =
      w.rest (record { stored = nothing; after = omega (arith, w.reach, ap (λ (l : List ℤ). length (rows i l)) none) })
    where
      none : drop i samples ≡ []
      none = drop_end samples i h

      nothing : out ≡ splice out ((i + 1) * line_bytes) (rows i (drop i samples))
      nothing = ap (λ (l : List ℤ). splice out ((i + 1) * line_bytes) (rows i l)) (sym none)

pub number-requires : goal.number-requires
number-requires c = index_narrow c.loop-i.i (omega (arith, c.loop-i-test.true, c.requires))

pub loop-i-preserved : goal.loop-i-preserved
loop-i-preserved c =
    let a = c.args in
    let i = c.loop-i.i in
    let z : SFits w16 (get_or a.samples.now i (pos 0)) = search rules in
    let long : length c.line-row.result ≡ line_bytes = search rules in
    let index = c.number.ensures ∙ ap (column width) (same_decimal i (omega arith)) in
    let line = put_row c.line-row.ensures index (c.signed.ensures ∙ shown z) in
    turn a.samples.now a.output.now c.loop-i.output i c.loop-i.invariant c.loop-i-test.true line long c.put.ensures

pub returns : goal.returns
returns c = let a = c.args in
    finish a.samples.now a.output.now c.loop-i.output c.loop-i.i c.loop-i.invariant c.loop-i-test.false
