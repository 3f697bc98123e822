-- `listing::put_decoded` meets its contract: a decode's tables, or 9 alone, are what is listed of the input. Assumes nothing.
use Rattle.std.proofs.Common.{◌≡◌, ℕ, ◌<◌, List, length, take, replicate, false, sym, ◌∙◌, subst, arith}
use lib.IntN.{ℤ, pos}
use lib.Seq.{length-take-le}
use Rattle.std.proofs.lemmas.List.{length-replicate}
use Rattle.lists.proofs.Bools.{cond_yes, cond_no}
use Rattle.adpcm.specs.declared.History.{History}
use Rattle.listing.specs.Text.{decimal}
use Rattle.listing.specs.Sizes.{most_samples}
use Rattle.listing.specs.Inner.{DecodesTo, Put}
use Rattle.listing.specs.Listing.{complete, tables, tables_of, only_nine, listed}
use Rattle.listing.proofs.put_decoded.Goals as goal

-- as many places for samples as the count says
places : (count : ℕ) → count < 65536 → length (take count (replicate most_samples (pos 0))) ≡ count
places count h = length-take-le count (replicate most_samples (pos 0)) (omega (arith, length-replicate most_samples (pos 0)))

module _ (input old new : List ℕ) (r : ℕ) where
  tables_listed : (samples : List ℤ) (last : History) → DecodesTo input samples last → Put old 0 (tables samples last) new r
      → Put old 0 (listed input) new r
  unfolding listed
  tables_listed samples last d p =
      subst (λ (text : List ℕ). Put old 0 text new r)
      ((λ j. tables (d.made j) (d.after j)) ∙ sym (cond_yes (tables_of input) only_nine d.whole)) p

  nine_listed : complete input ≡ false → Put old 0 only_nine new r → Put old 0 (listed input) new r
  unfolding listed
  nine_listed t p = subst (λ (text : List ℕ). Put old 0 text new r) (sym (cond_no (tables_of input) only_nine t)) p

pub slice_bounds-samples-end : goal.slice_bounds-samples-end
slice_bounds-samples-end c = sym (places c.count-count.result c.count-count.ensures.upper_bound)

pub decode-requires-clause-counted : goal.decode-requires-clause-counted
decode-requires-clause-counted c =
    let n = c.count-count in
    places n.result n.ensures.upper_bound ∙ n.ensures.value

pub decode-requires-clause-few : goal.decode-requires-clause-few
decode-requires-clause-few c =
    let n = c.count-count in
    omega (arith, places n.result n.ensures.upper_bound, n.ensures.upper_bound)

pub put_tables-requires : goal.put_tables-requires
put_tables-requires c =
    let n = c.count-count in
    omega (arith, c.decode.auto.samples, places n.result n.ensures.upper_bound, n.ensures.upper_bound)

pub returns-in-Ok-clause-put : goal.returns-in-Ok-clause-put
returns-in-Ok-clause-put c = tables_listed _ _ _ _ _ _ c.in-Ok.ensures.decoded c.put_tables.ensures.tables

pub returns-in-Err-clause-put : goal.returns-in-Err-clause-put
returns-in-Err-clause-put c = nine_listed _ _ _ _ c.in-Err.ensures.refused c.put_nine.ensures

pub returns-in-Err-clause-next : goal.returns-in-Err-clause-next
unfolding decimal
returns-in-Err-clause-next c = omega (arith, c.put_nine.ensures.after)
