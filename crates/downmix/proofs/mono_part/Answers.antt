-- `downmix::mono_part` meets its contract: each callee says its part of the definition. Assumes nothing.
use mathlib.Core.Path.{◌≡◌, refl, ap, ◌∙◌}
use lib.IntN.{pos}
use lib.Ieee.{binary32, of_bits, of_int, add, div}
use mir.Syntax.{w16}
use mir.Facts.{to_z-of_z}
use Rattle.numbers.specs.Casts.{single}
use Rattle.numbers.proofs.Bounds.{result_read}
use Rattle.downmix.specs.Downmix.{at_volume, part_of, mono_part}
use Rattle.downmix.proofs.mono_part.Goals as goal

-- the code's 2.0
two_is : of_bits binary32 0x4000_0000 ≡ single (pos 2)
unfolding of_bits of_int
two_is = refl

pub returns : goal.returns
unfolding mono_part
returns c =
    let v = c.args.volume in
    let a' = c.at_volume.ensures ∙ ap (at_volume v) (to_z-of_z c.ranges.a) in
    let b' = c.at_volume-2.ensures ∙ ap (at_volume v) (to_z-of_z c.ranges.b) in
    let c' = c.at_volume-3.ensures ∙ ap (at_volume v) (to_z-of_z c.ranges.c) in
    let d' = c.at_volume-4.ensures ∙ ap (at_volume v) (to_z-of_z c.ranges.d) in
    result_read w16 c.part_of.result c.part_of.type_inv
    ∙ c.part_of.ensures
    ∙ (λ k. part_of (div binary32 (add binary32 (add binary32 (add binary32 (a' k) (b' k)) (c' k)) (d' k)) (two_is k)))
