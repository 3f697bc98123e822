-- `numbers::casts::single_of_i32` meets its contract: its two halves, as the machine reads them. Assumes nothing.
use Rattle.std.proofs.Common.{◌≡◌, ◌<◌, ℤ, pos, ap, ◌∙◌, arith, w32, SFits, to_z, of_z}
use lib.Bits.{bit_and, mask_lt}
use lib.Ieee.{binary32, add, mul, of_int}
use lib.Signed.{shr_z}
use mir.Facts.{to_z_pos}
use Rattle.numbers.proofs.Bounds.{shr_read}
use Rattle.numbers.proofs.Halves.{halves}
use Rattle.numbers.proofs.Literals.{two_to_16}
use Rattle.numbers.proofs.Wraps.{low_is32}
use Rattle.numbers.proofs.casts.single_of_i32.Goals as goal

module _ (n : ℤ) (f : SFits w32 n) where
  upper : to_z w32 (of_z w32 (shr_z (to_z w32 (of_z w32 n)) 65536)) ≡ shr_z n 65536
  upper = shr_read w32 n 65536 f.sfits

  below : bit_and (of_z w32 n) 65535 < 65536
  below = mask_lt (of_z w32 n) 16

  read : to_z w32 (bit_and (of_z w32 n) 65535) ≡ pos (bit_and (of_z w32 n) 65535)
  read = to_z_pos w32 less
    where
      less : bit_and (of_z w32 n) 65535 < 2147483648
      less = omega (arith, below)

pub returns : goal.returns
returns c =
    let n = c.args.n in
    let f = c.ranges.n in
    (λ i. add binary32 (mul binary32 (of_int binary32 (upper n f i)) (two_to_16 i))
    (of_int binary32 ((read n f ∙ ap pos (low_is32 n f)) i)))
    ∙ halves n f.sfits
