-- A biquad filter's `pass` meets its contract: the sum, read back through the wrap, the shift and the clamp, and a value of 16 bits keeps
-- the filter in range. Assumes nothing.
use mathlib.Core.Path.{◌≡◌, sym, ap, ◌∙◌, subst}
use lib.Dec.{T}
use lib.IntN.{ℤ}
use lib.Signed.{shr_z}
use mir.Syntax.{w16, w32, w64}
use mir.Val.{SFits, of_z, to_z}
use mir.Facts.{to_z-of_z}
use borrow.Author.Rules.{rules}
use Rattle.numbers.specs.Wrap.{wrap32, clamp16}
use Rattle.numbers.proofs.Bounds.{is_read, result_read, shr_read}
use Rattle.filters.specs.declared.state.BiquadFilter.{BiquadFilter}
use Rattle.filters.specs.Range.{biquad_in_range}
use Rattle.filters.specs.Filter.{biquad_sum, biquad_value, biquad_after}
use Rattle.filters.proofs.Passes.{biquad_stays}
use Rattle.filters.proofs.filter.BiquadFilterFilter.pass.Goals as goal

pub returns : goal.returns
unfolding biquad_value
returns c =
    let k = c.args.channel in
    let f = c.args.self.now in
    let x = c.args.sample.now in
    let fits : SFits w16 x = search rules in
    let v = c.clamped-value in
    let value : to_z w16 (of_z w16 v.result) ≡ biquad_value k f x =
    result_read w16 v.result v.type_inv ∙ v.ensures
    ∙ ap clamp16 (shr_read w32 c.wrapped.result 16384 c.wrapped.type_inv
    ∙ ap (λ (z : ℤ). shr_z z 16384) (c.wrapped.ensures
    ∙ ap wrap32 ((is_read w64 c.sum.ensures tt).is ∙ ap (biquad_sum k f) (to_z-of_z fits)))) in
    let filter = c.biquad_after.ensures ∙ (λ i. biquad_after k f (to_z-of_z fits i) (value i)) in
    record {
      value = value;
      filter = filter;
      stays = subst (λ (g : BiquadFilter). T (biquad_in_range g)) (sym filter) (biquad_stays k f x fits c.requires.range);
    }
