-- `steps::stretch::counted` meets its contract. Assumes nothing.
use mathlib.Core.Path.{◌≡◌, sym, ap, ◌∙◌, subst}
use Prim.Native.Nat.{ℕ, ◌^◌, ◌<◌}
use native.Mathlib.Omega.{arith}
use lib.Dec.{T, le→leb}
use lib.IntN.{ℤ, pos, nat_abs}
use lib.Ieee.{Float, binary64, of_int, in_signed, in_float, to_signed, to_unsigned}
use lib.Ieee.Casts.{to_unsigned-lt, to_signed_in}
use lib.Ieee.Back.{positive_back}
use mir.Syntax.{w64}
use mir.Val.{of_z, to_z, Fits}
use lib.Signed.{non_neg}
use Rattle.numbers.proofs.Bounds.{result_read}
use Rattle.steps.proofs.stretch.counted.Goals as goal

back : (k : ℕ) → k < 4294967296 → T (in_signed binary64 63 (of_int binary64 (pos k))) × (to_signed 63 (of_int binary64 (pos k)) ≡ pos k)
unfolding in_float
back k h = positive_back binary64 63 k (le→leb k (2 ^ 53) (omega arith)) (omega arith)

is : (x y : Float) → y ≡ of_int binary64 (pos (to_unsigned 32 x)) → to_z w64 (of_z w64 (to_signed 63 y)) ≡ pos (to_unsigned 32 x)
is x y e = result_read w64 (to_signed 63 y) (to_signed_in 63 y) ∙ ap (to_signed 63) e ∙ (back (to_unsigned 32 x) (to_unsigned-lt 32 x)).1

pub float_to_int-result : goal.float_to_int-result
float_to_int-result c =
    let x = c.args.w in
    subst (λ (y : Float). T (in_signed binary64 63 y)) (sym c.requires) (back (to_unsigned 32 x) (to_unsigned-lt 32 x)).0

pub overflow_cast-result : goal.overflow_cast-result
overflow_cast-result c =
    let x = c.args.w in
    subst (λ (z : ℤ). T (non_neg z) × Fits w64 (nat_abs z)) (sym (is x c.args.w c.requires))
    (tt, record { fits = less (to_unsigned 32 x) (to_unsigned-lt 32 x) })
  where
    less : (k : ℕ) → k < 4294967296 → k < 18446744073709551616
    less k h = omega arith

pub returns : goal.returns
returns c =
    let x = c.args.w in
    let e : nat_abs (to_z w64 (of_z w64 (to_signed 63 c.args.w))) ≡ to_unsigned 32 x = ap nat_abs
    (is x c.args.w c.requires) in record {
      value = e;
      upper_bound = subst (λ (k : ℕ). k < 4294967296) (sym e) (to_unsigned-lt 32 x);
    }
