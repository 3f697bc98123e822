-- `numbers::bits::gain_of` meets its contract: the test says whether the float is finite. Assumes nothing.
use Rattle.std.proofs.Common.{◌≡◌, Bool, sym, ap, ◌∙◌}
use Rattle.std.specs.Float.{float_is_finite}
use lib.Ieee.{Float, binary32, of_bits}
use lib.Ieee.Scale.{finite}
use Rattle.lists.proofs.Bools.{cond_yes, cond_no}
use Rattle.numbers.specs.Bits.{gain}
use Rattle.numbers.specs.Literals.{+0}
use Rattle.numbers.proofs.Forms.{finite_is}
use Rattle.numbers.proofs.Literals.{zero_32}
use Rattle.numbers.proofs.bits.gain_of.Goals as goal

-- what std's test of a float says of the float that it is
tested : (x y : Float) (b : Bool) → y ≡ x → b ≡ float_is_finite y → finite x ≡ b
tested x y b e t = sym (t ∙ finite_is y ∙ ap finite e)

pub returns-then-is_finite : goal.returns-then-is_finite
unfolding gain
returns-then-is_finite c =
    let x = of_bits binary32 c.args.bits in
    let e = c.f32_from_bits_with_nan-gain.ensures in
    e ∙ sym (cond_yes x +0 (tested _ _ _ e c.is_finite.ensures.value ∙ c.if-is_finite.true))

pub returns-else-is_finite : goal.returns-else-is_finite
unfolding gain
returns-else-is_finite c =
    let x = of_bits binary32 c.args.bits in
    let e = c.f32_from_bits_with_nan-gain.ensures in
    zero_32 ∙ sym (cond_no x +0 (tested _ _ _ e c.is_finite.ensures.value ∙ c.if-is_finite.false))
