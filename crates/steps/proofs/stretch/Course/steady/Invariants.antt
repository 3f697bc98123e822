-- `steps::stretch::Course::steady` meets its contract: a turn is one step, by the laws of Steady and Walk, and takes no
-- more than the whole part of the rate and one. Assumes nothing.
use Prim.Native.Nat.{◌+◌, ◌-◌, ◌*◌, ◌<◌}
use Rattle.numbers.specs.Casts.{cast_u32}
use Rattle.steps.specs.Steady.{Part}
use Rattle.steps.proofs.Walk.{Loop}
use Rattle.steps.proofs.stretch.Course.steady.Given as goal

abbrev pub invariant-loop-k : goal.invariant-loop-k
invariant-loop-k l =
    Loop l.self.rate l.self.start l.self.size l.places l.fractions l.self.room l.at l.fraction l.k × Part l.fraction
    × (l.at + (l.self.room - l.k) * (cast_u32 l.self.rate + 1) + 1 < l.self.size)
