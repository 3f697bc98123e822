-- `mixing::gain::fading` meets its contract: each callee says its part of the definition. Assumes nothing.
use mathlib.Core.Path.{ap, ◌∙◌}
use lib.Ieee.{binary32, add, sub, mul}
use mir.Syntax.{w32}
use mir.Facts.{to_z-of_z}
use Rattle.numbers.specs.Casts.{cast_i32, single}
use Rattle.numbers.proofs.Bounds.{result_read}
use Rattle.mixing.specs.Gain.{fading}
use Rattle.mixing.proofs.gain.fading.Goals as goal

pub returns : goal.returns
unfolding fading
returns c =
    let sample = c.from.ensures ∙ ap single (to_z-of_z c.ranges.sample) in
    let from = c.args.from in
    result_read w32 c.cast_i32.result c.cast_i32.type_inv
    ∙ c.cast_i32.ensures
    ∙ (λ k. cast_i32 (mul binary32
    (add binary32 from (mul binary32 (sub binary32 c.args.to from) (c.progress.ensures k)))
    (sample k)))
