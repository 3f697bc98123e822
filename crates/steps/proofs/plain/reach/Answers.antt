-- `steps::plain::reach` meets its contract, by the laws of Whole. Assumes nothing.
use native.Mathlib.Omega.{arith}
use Rattle.numbers.proofs.Literals.{zero_64}
use Rattle.steps.proofs.Whole.{none_reached, some_reached}
use Rattle.steps.proofs.plain.reach.Goals as goal

pub returns-then-count-eq0 : goal.returns-then-count-eq0
returns-then-count-eq0 c =
    none_reached c.args.c c.args.room c.requires.on_a_sample (omega arith)

pub returns : goal.returns
returns c =
    let n = c.min-count.result in
    some_reached c.args.c c.args.room n _ c.requires.on_a_sample zero_64 (omega arith) (omega arith) (omega arith)
