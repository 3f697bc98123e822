-- `steps::stretch::Course::any` meets its contract: a turn is one step, by the laws of Walk. Assumes nothing.
use mathlib.Core.Path.{ap, ◌∙◌}
use native.Mathlib.Omega.{arith}
use lib.Ieee.{Float, binary64, add, sub}
use Rattle.numbers.specs.Held.{at_least_0}
use Rattle.steps.proofs.Walk.{turn, begun}
use Rattle.steps.proofs.stretch.Course.any.Goals as goal

pub loop-k-init : goal.loop-k-init
loop-k-init c =
    let a = c.args in
    let s = a.self in
    begun s.rate s.start s.size a.places.now a.fractions.now s.room s.two_left s.start_in_entry c.told-places c.told-fractions

pub loop-k-preserved : goal.loop-k-preserved
loop-k-preserved c =
    let s = c.args.self in
    let l = c.loop-k in
    turn s.rate _ s.size l.places l.fractions s.room l.at l.fraction l.k l.invariant
    (omega arith) (omega arith) c.whole_part.result c.at_least_0-fraction.result c.whole_part.ensures.value
    (c.at_least_0-fraction.ensures ∙ ap (λ (w : Float). at_least_0 (sub binary64 (add binary64 l.fraction s.rate) w)) c.whole_u32.ensures)
    (omega arith)
