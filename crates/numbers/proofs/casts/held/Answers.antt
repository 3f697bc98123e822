-- `numbers::casts::held` meets its contract. Assumes nothing.
use Rattle.std.proofs.Common.{◌≡◌, Bool, sym, ap, ◌∙◌}
use Rattle.numbers.proofs.Holding.{held_number, held_none}
use Rattle.numbers.proofs.casts.held.Goals as goal

-- what a test answers, of the same test by another name
tested : {r p q b : Bool} → r ≡ p → p ≡ q → r ≡ b → q ≡ b
tested e f t = sym f ∙ sym e ∙ t

pub returns-then-eq : goal.returns-then-eq
returns-then-eq g c =
    held_number (g.F.Real.float c.args.x) _ _ _ _ (ap g.F.Real.float c.HIGH.ensures ∙ g.met.F.Real.numbers.high_is)
    (ap g.F.Real.float c.LOW.ensures ∙ g.met.F.Real.numbers.low_is) c.at_most.ensures c.at_least-within.ensures
    (tested c.eq.ensures (g.met.F.Real.operates.equal_is c.args.x c.args.x) c.if-eq.true)

pub returns-else-eq : goal.returns-else-eq
returns-else-eq g c =
    held_none (g.F.Real.float c.args.x) _ (ap g.F.Real.float c.ZERO.ensures ∙ g.met.F.Real.numbers.zero_is)
    (tested c.eq.ensures (g.met.F.Real.operates.equal_is c.args.x c.args.x) c.if-eq.false)
