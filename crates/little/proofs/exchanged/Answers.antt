-- `little::exchanged` meets its contract: the lower half, shifted, shares no bit with the upper one. Assumes nothing.
use Rattle.std.proofs.Common.{◌≡◌, ℕ, ◌+◌, ◌*◌, ◌/◌, ◌%◌, ◌<◌, ap, ◌∙◌, arith}
use Rattle.std.proofs.lemmas.Nat.{or_shifted}
use lib.Bits.{bit_or}
use Rattle.little.proofs.exchanged.Goals as goal

halves : (n : ℕ) → n < 4294967296 → bit_or (n * 65536 % 4294967296) (n / 65536) ≡ n % 65536 * 65536 + n / 65536
halves n h = ap (λ (k : ℕ). bit_or k (n / 65536)) shifted ∙ or_shifted (n % 65536) 16 (n / 65536) small
  where
    shifted : n * 65536 % 4294967296 ≡ n % 65536 * 65536
    shifted = omega arith

    small : n / 65536 < 65536
    small = omega arith

pub returns : goal.returns
returns c = c.rotate_left.ensures ∙ halves c.args.n c.ranges.n.fits
