-- `numbers::bits::rate_of` meets its contract: the test says whether the float is a rate. Assumes nothing.
use Rattle.std.proofs.Common.{sym, ap, ◌∙◌}
use lib.Ieee.{binary32, of_bits}
use Rattle.lists.proofs.Bools.{cond_yes, cond_no}
use Rattle.numbers.specs.Bits.{rate}
use Rattle.numbers.specs.Literals.{+1}
use Rattle.numbers.specs.Tests.{is_rate}
use Rattle.numbers.proofs.Literals.{one_64}
use Rattle.numbers.proofs.bits.rate_of.Goals as goal

pub returns-then-is_rate : goal.returns-then-is_rate
unfolding rate
returns-then-is_rate c =
    let made = c.double_of_single-rate.ensures ∙ c.f32_from_bits_with_nan.ensures in
    made ∙ sym (cond_yes (of_bits binary32 c.args.bits) +1 (sym (c.is_rate.ensures ∙ ap is_rate made) ∙ c.if-is_rate.true))

pub returns-else-is_rate : goal.returns-else-is_rate
unfolding rate
returns-else-is_rate c =
    let made = c.double_of_single-rate.ensures ∙ c.f32_from_bits_with_nan.ensures in
    one_64 ∙ sym (cond_no (of_bits binary32 c.args.bits) +1 (sym (c.is_rate.ensures ∙ ap is_rate made) ∙ c.if-is_rate.false))
