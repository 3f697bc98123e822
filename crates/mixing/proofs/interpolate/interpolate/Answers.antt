-- `mixing::interpolate::interpolate` meets its contract: each callee says its part of the definition. Assumes nothing.
use mathlib.Core.Path.{ap, ◌∙◌}
use lib.Ieee.{binary64, add, sub, mul}
use mir.Syntax.{w16}
use mir.Facts.{to_z-of_z}
use Rattle.numbers.specs.Casts.{cast_i16, double}
use Rattle.numbers.proofs.Bounds.{result_read}
use Rattle.mixing.specs.Interpolate.{interpolate}
use Rattle.mixing.proofs.interpolate.interpolate.Goals as goal

pub returns : goal.returns
unfolding interpolate
returns c =
    let a = c.from-from.ensures ∙ ap double (to_z-of_z c.ranges.a) in
    let b = c.from-to.ensures ∙ ap double (to_z-of_z c.ranges.b) in
    result_read w16 c.cast_i16.result c.cast_i16.type_inv
    ∙ c.cast_i16.ensures
    ∙ (λ k. cast_i16 (add binary64 (a k) (mul binary64 (sub binary64 (b k) (a k)) c.args.fraction)))
