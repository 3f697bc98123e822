-- `mix_voice::signs::part` meets its contract: the product is brought nearer, put among the halves, and read from the bits. Assumes
-- nothing.
use mathlib.Core.Path.{◌≡◌, sym, ap, ◌∙◌, subst}
use mathlib.Core.Bool.{Bool, not, cond}
use lib.Dec.{T}
use lib.IntN.{ℤ, ◌-ℤ◌}
use lib.Signed.{shr_z}
use lib.Ieee.{Float, binary32, of_bits, to_bits, add, sub, mul, is_nan}
use mir.Syntax.{w16, w32}
use mir.Val.{SFits, to_z, of_z}
use Rattle.std.specs.Float.{is_sign_negative}
use Rattle.numbers.specs.Casts.{single}
use Rattle.mixing.specs.Gain.{at_gain}
use Rattle.mix_voice.specs.Quick.{Around, +¼, -¼}
use Rattle.mix_voice.proofs.Quarter.{quarter}
use Rattle.mix_voice.proofs.Product.{Product, gain_product, quarter_by, base_by, middle_32, sum_number, apart_fits, cut_is}
use Rattle.mix_voice.proofs.signs.part.Goals as goal

-- the product, by the sample, which is handed in as a float
module _ (g s : Float) (v : ℤ) (fit : SFits w16 v) (a : Around 63 g) (s_is : s ≡ single v) where
  x_is : mul binary32 g s ≡ mul binary32 g (single v)
  x_is = ap (mul binary32 g) s_is

  p : Product (mul binary32 g (single v))
  p = gain_product g v a fit.sfits

  number : T (not (is_nan (mul binary32 g s)))
  number = subst (λ (x : Float). T (not (is_nan x))) (sym x_is) p.number

  module _ (negative : Bool) (e : negative ≡ is_sign_negative (mul binary32 g s)) where
    sign : negative ≡ p.b
    sign = e ∙ ap is_sign_negative x_is ∙ p.sign

    quarter_is : (q : Float) → q ≡ cond negative -¼ +¼ → q ≡ quarter p.b
    quarter_is q h = h ∙ ap (λ (b : Bool). cond b -¼ +¼) sign ∙ quarter_by p.b

    -- the bits of the sum, less the base, as the code has them
    module _ (q : Float) (h : q ≡ cond negative -¼ +¼) where
      abbrev sum : Float
      sum = add binary32 (sub binary32 (mul binary32 g s) q) (of_bits binary32 0x4ac0_0000)

      sum_is_number : T (not (is_nan sum))
      sum_is_number = sum_number _ _ q _ p x_is (quarter_is q h) middle_32

      module _ (bits base : ℤ) (bits_fit : SFits w32 bits) (base_fit : SFits w32 base) (eb : bits ≡ to_z w32 (to_bits binary32 sum))
          (b : base ≡ base_by negative) where
        fits : SFits w32 (to_z w32 (of_z w32 bits) -ℤ to_z w32 (of_z w32 base))
        fits = apart_fits _ _ q _ p x_is (quarter_is q h) middle_32 bits base bits_fit base_fit eb (b ∙ ap base_by sign)

        is : to_z w32 (of_z w32 (shr_z (to_z w32 (of_z w32 (to_z w32 (of_z w32 bits) -ℤ to_z w32 (of_z w32 base)))) 2)) ≡ at_gain g v
        unfolding at_gain
        is = cut_is _ _ q _ p x_is (quarter_is q h) middle_32 bits base bits_fit base_fit eb (b ∙ ap base_by sign)

pub is_sign_negative-negative-requires : goal.is_sign_negative-negative-requires
is_sign_negative-negative-requires c =
    number c.args.gain c.args.s c.args.sample c.ranges.sample c.requires.small c.requires.same_sample

pub float_to_bits-t : goal.float_to_bits-t
float_to_bits-t c =
    let n = c.is_sign_negative-negative in
    sum_is_number c.args.gain c.args.s c.args.sample c.ranges.sample c.requires.small c.requires.same_sample n.result n.ensures
    c.quarter_of.result c.quarter_of.ensures

pub overflow_sub-result : goal.overflow_sub-result
overflow_sub-result c =
    let n = c.is_sign_negative-negative in
    fits c.args.gain c.args.s c.args.sample c.ranges.sample c.requires.small c.requires.same_sample n.result n.ensures
    c.quarter_of.result c.quarter_of.ensures c.cast_signed.result c.base_of.result (record { sfits = c.cast_signed.type_inv })
    (record { sfits = c.base_of.type_inv }) c.cast_signed.ensures c.base_of.ensures

pub returns : goal.returns
returns c =
    let n = c.is_sign_negative-negative in
    is c.args.gain c.args.s c.args.sample c.ranges.sample c.requires.small c.requires.same_sample n.result n.ensures
    c.quarter_of.result c.quarter_of.ensures c.cast_signed.result c.base_of.result (record { sfits = c.cast_signed.type_inv })
    (record { sfits = c.base_of.type_inv }) c.cast_signed.ensures c.base_of.ensures
