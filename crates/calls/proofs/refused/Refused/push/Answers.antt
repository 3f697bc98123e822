-- `calls::refused::Refused::push` meets its contract: the first place behind the voices takes one more, and nobody is behind it. Assumes
-- nothing.
use Rattle.std.proofs.Common.{◌<◌, arith, ◌∙◌, length-take-le}
use Rattle.std.proofs.lemmas.List.{length-set}
use Rattle.stems.specs.Memory.{VOICES}
use Rattle.calls.proofs.Places.{nobody_behind}
use Rattle.calls.proofs.refused.Refused.push.Goals as goal

pub invariant_of-self : goal.invariant_of-self
invariant_of-self c =
    let r = c.self.inside in
    let listed = rw (← c.self.view_is) at c.requires in
    let few : r.count < VOICES = omega (arith, listed, length-take-le r.count r.places (omega arith)) in (
      omega (arith, few),
      length-set r.places r.count _ ∙ c.self.invariant.1,
      nobody_behind r.places r.count _ few c.self.invariant.1 c.self.invariant.2,
    )
