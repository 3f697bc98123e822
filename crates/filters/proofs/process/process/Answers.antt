-- `filters::process::process` meets its contract: the law of the filters' marks, by what stands between the two. Assumes nothing.
use mathlib.Core.Path.{ap, ◌∙◌}
use Rattle.filters.specs.Inner.{with_biquad}
use Rattle.filters.proofs.Marks.{Between, between_on, between_off, ends_on, ends_off}
use Rattle.filters.proofs.process.process.Goals as goal
use Rattle.filters.proofs.process.process.Goals.{then-filters, else-filters}

pub returns-then-filters-2 : goal.returns-then-filters-2
returns-then-filters-2 c =
    let f = c.args.filters.now in
    let s = c.args.samples.now in
    let mid = c.if-filters.samples in
    let g = c.if-filters.filters in
    let t : Between f s mid g = elim c.if-filters.branch [
      | then-filters w ↦ between_on f s mid _ g w.if-filters.true (w.samples-is ∙ w.run.ensures.samples) w.run.ensures.filter w.filters-is
      | else-filters w ↦ between_off f s mid g w.if-filters.false w.samples-is w.filters-is
    ] in
    let law = ends_on f s mid g t c.if-filters-2.true in
    let r = c.run-then-filters-2.ensures in record { samples = r.samples ∙ law.0; filters = ap (with_biquad g) r.filter ∙ law.1 }

pub returns-else-filters-2 : goal.returns-else-filters-2
returns-else-filters-2 c =
    let f = c.args.filters.now in
    let s = c.args.samples.now in
    let mid = c.if-filters.samples in
    let g = c.if-filters.filters in
    let t : Between f s mid g = elim c.if-filters.branch [
      | then-filters w ↦ between_on f s mid _ g w.if-filters.true (w.samples-is ∙ w.run.ensures.samples) w.run.ensures.filter w.filters-is
      | else-filters w ↦ between_off f s mid g w.if-filters.false w.samples-is w.filters-is
    ] in
    let law = ends_off f s mid g t c.if-filters-2.false in record { samples = law.0; filters = law.1 }
