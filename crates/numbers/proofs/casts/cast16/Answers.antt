-- `numbers::casts::cast16` meets its contract. Assumes nothing.
use Rattle.std.proofs.Common.{◌≡◌, ℕ, ◌<◌, ℤ, pos, sym, ◌∙◌, subst, to_z-of_z, w16, w32, SFits, to_z, of_z}
use lib.Ieee.{Float, Format, of_int, to_signed}
use lib.Signed.{mag}
use Rattle.numbers.specs.Held.{held, size_of, whole_of, with_sign}
use Rattle.numbers.specs.Reals.{Shape}
use Rattle.numbers.specs.Within.{Is}
use Rattle.numbers.specs.Wrap.{clamp16}
use Rattle.numbers.proofs.Bounds.{is_read, result_read}
use Rattle.numbers.proofs.Holding.{small_size, wide_enough, whole_in, whole_cast, signed_is, clamped_cast}
use Rattle.numbers.proofs.Ranges.{clamp_fits}
use Rattle.numbers.proofs.casts.cast16.Goals as goal

module _
    {f : Format} {h M : ℕ} (t : Shape f h M) (x : Float) {z a y : Float} {n : ℤ} (Z : z ≡ held x) (A : a ≡ size_of z)
    (Y : y ≡ of_int f (pos (whole_of a))) (N : n ≡ to_signed 31 y) where
  -- the whole part as the code reads it
  counted : Is 32768 (pos (whole_of a)) (to_z w32 (of_z w32 n))
  counted = is_read w32 (whole_cast t a y n (small_size x z a Z A) Y N) tt

  -- and with its sign back
  signed : {k : ℤ} → mag k < 2147483648 → k ≡ with_sign z (to_z w32 (of_z w32 n)) → to_z w32 (of_z w32 k) ≡ clamp16 (to_signed 31 x)
  signed {k} l K = result_read w32 k l ∙ K ∙ signed_is x z a (to_z w32 (of_z w32 n)) Z A counted

pub whole-requires : goal.whole-requires
whole-requires g c =
    wide_enough g.met.F.Real.shape _ (small_size (g.F.Real.float c.args.x) _ _ c.held-z.ensures c.size.ensures)

pub to_i32-requires : goal.to_i32-requires
to_i32-requires g c =
    whole_in g.met.F.Real.shape _ _ (small_size (g.F.Real.float c.args.x) _ _ c.held-z.ensures c.size.ensures) c.whole.ensures

pub with_sign-requires : goal.with_sign-requires
with_sign-requires g c =
    (counted g.met.F.Real.shape (g.F.Real.float c.args.x) c.held-z.ensures c.size.ensures c.whole.ensures c.to_i32.ensures).abs

pub overflow_cast-result : goal.overflow_cast-result
overflow_cast-result g c =
    let x = g.F.Real.float c.args.x in
    let t = g.met.F.Real.shape in
    subst (SFits w16)
    (sym (signed t x c.held-z.ensures c.size.ensures c.whole.ensures c.to_i32.ensures c.with_sign.type_inv c.with_sign.ensures))
    (clamp_fits (to_signed 31 x))

pub returns : goal.returns
returns g c =
    let x = g.F.Real.float c.args.x in
    to_z-of_z (overflow_cast-result g c)
    ∙ signed g.met.F.Real.shape x c.held-z.ensures c.size.ensures c.whole.ensures c.to_i32.ensures c.with_sign.type_inv c.with_sign.ensures
    ∙ clamped_cast x
