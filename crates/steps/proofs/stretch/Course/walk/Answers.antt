-- `steps::stretch::Course::walk` meets its contract: either way has it, and the test says what the quick way asks. Assumes nothing.
use mathlib.Core.Path.{sym, ◌∙◌}
use Rattle.steps.proofs.Steady.{quick_way_says}
use Rattle.steps.proofs.stretch.Course.walk.Goals as goal

pub steady-requires-clause-part : goal.steady-requires-clause-part
steady-requires-clause-part c =
    (quick_way_says c.args.self.start c.args.self.rate c.args.self.room (sym c.is_quick.ensures ∙ c.if-is_quick.true)).0

pub steady-requires-clause-slow : goal.steady-requires-clause-slow
steady-requires-clause-slow c =
    (quick_way_says c.args.self.start c.args.self.rate c.args.self.room (sym c.is_quick.ensures ∙ c.if-is_quick.true)).1

pub steady-requires-clause-two_left_after : goal.steady-requires-clause-two_left_after
steady-requires-clause-two_left_after c =
    (quick_way_says c.args.self.start c.args.self.rate c.args.self.room (sym c.is_quick.ensures ∙ c.if-is_quick.true)).2
