-- `numbers::casts::cast_u32` meets its contract. Assumes nothing.
use Rattle.std.proofs.Common.{◌≡◌, ℕ, ◌^◌, ◌<◌, T, pos, sym, ap, ◌∙◌, subst, arith, le→leb}
use lib.Ieee.{Float, binary64, of_int, in_unsigned, in_float, to_unsigned}
use lib.Ieee.Casts.{to_unsigned-lt}
use lib.Ieee.Back.{unsigned_back}
use Rattle.numbers.proofs.casts.cast_u32.Goals as goal

back : (k : ℕ) → k < 4294967296 → T (in_unsigned binary64 32 (of_int binary64 (pos k))) × (to_unsigned 32 (of_int binary64 (pos k)) ≡ k)
unfolding in_float
back k h = unsigned_back binary64 32 k (le→leb k (2 ^ 53) (omega arith)) h

pub float_to_int-result : goal.float_to_int-result
float_to_int-result c =
    let k = to_unsigned 32 c.args.x in
    subst (λ (y : Float). T (in_unsigned binary64 32 y)) (sym c.whole_u32.ensures)
    (back k (to_unsigned-lt 32 c.args.x)).0

pub returns : goal.returns
returns c =
    let k = to_unsigned 32 c.args.x in
    ap (to_unsigned 32) c.whole_u32.ensures ∙ (back k (to_unsigned-lt 32 c.args.x)).1
