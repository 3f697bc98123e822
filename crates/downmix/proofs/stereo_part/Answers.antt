-- `downmix::stereo_part` meets its contract: each callee says its part of the definition. Assumes nothing.
use mathlib.Core.Path.{ap, ◌∙◌}
use lib.Ieee.{binary32, add}
use mir.Syntax.{w16}
use mir.Facts.{to_z-of_z}
use Rattle.numbers.proofs.Bounds.{result_read}
use Rattle.downmix.specs.Downmix.{at_volume, part_of, stereo_part}
use Rattle.downmix.proofs.stereo_part.Goals as goal

pub returns : goal.returns
unfolding stereo_part
returns c =
    let v = c.args.volume in
    let first = c.at_volume.ensures ∙ ap (at_volume v) (to_z-of_z c.ranges.a) in
    let second = c.at_volume-2.ensures ∙ ap (at_volume v) (to_z-of_z c.ranges.c) in
    result_read w16 c.part_of.result c.part_of.type_inv
    ∙ c.part_of.ensures
    ∙ (λ k. part_of (add binary32 (first k) (second k)))
