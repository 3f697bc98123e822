-- `steps::stretch::is_slow` meets its contract. Assumes nothing.
use mathlib.Core.Path.{◌≡◌, refl, sym, ap, ◌∙◌}
use mathlib.Core.Bool.{false}
use lib.IntN.{pos}
use lib.Ieee.{Float, fin, binary64, of_bits, lt}
use Rattle.lists.proofs.Bools.{and_yes, and_no}
use Rattle.numbers.proofs.Literals.{zero_64}
use Rattle.steps.specs.Steady.{is_slow}
use Rattle.steps.proofs.stretch.is_slow.Goals as goal

-- 2147483648.0
limit : of_bits binary64 0x41e0_0000_0000_0000 ≡ fin false 1 (pos 31)
unfolding of_bits
limit = refl

pub returns-then-rate : goal.returns-then-rate
unfolding is_slow
returns-then-rate c =
    let x = c.args.rate in
    ap (lt x) limit ∙ sym (and_yes (lt x (fin false 1 (pos 31))) (ap (λ (y : Float). lt y x) (sym zero_64) ∙ c.if-rate.true))

pub returns-else-rate : goal.returns-else-rate
unfolding is_slow
returns-else-rate c =
    let x = c.args.rate in
    c.if-rate.false ∙ sym (and_no (lt x (fin false 1 (pos 31))) (ap (λ (y : Float). lt y x) (sym zero_64) ∙ c.if-rate.false))
