-- What the trait `Real` says of the two formats of floats, so that a cast is stated once for both: some numbers by their bits, how many
-- digits a number keeps, and operations that are IEEE 754's. No caller needs it. Assumes nothing: these are
-- definitions, and that the two formats are as they say.
use Rattle.std.specs.Prelude.{◌≡◌, ℕ, suc, ◌+◌, ◌<◌, ◌≤◌, ◌^◌, Bool, false, pos, from_bits}
use Rattle.std.specs.Float.{Float, Format, binary32, binary64, fin}
use Rattle.std.specs.Float.Ieee.{add, sub, neg, eq, prec, emax, of_bits}
use Rattle.std.proofs.Common.{refl, lit<, lit≤}
use Rattle.numbers.specs.Literals.{+0, +1}
use Rattle.numbers.specs.Held.{top, bottom}

-- a format that keeps `digits` digits below a number's leading one, so that from 2 ^ digits on no number has a digit below 1; up to `reach`
-- a whole part is found by a sum with that number
pub record Shape (f : Format) (digits reach : ℕ) : Type 0 where
  pub prec_is : prec f ≡ suc digits
  pub digits_le_emax : digits ≤ emax f
  pub reach_lt : reach + 1 < 2 ^ digits
  pub reach_ge : 32768 ≤ reach

pub shape_32 : Shape binary32 23 32768
shape_32 = record { prec_is = refl; digits_le_emax = lit≤ tt; reach_lt = lit< tt; reach_ge = lit≤ tt }

pub shape_64 : Shape binary64 52 4294967295
shape_64 = record { prec_is = refl; digits_le_emax = lit≤ tt; reach_lt = lit< tt; reach_ge = lit≤ tt }

-- the numbers that the casts go by: 0, 1, 32767, -32768 and 2 ^ digits
pub record Numbers (digits : ℕ) (zero one high low big : Float) : Type 0 where
  pub zero_is : zero ≡ +0
  pub one_is : one ≡ +1
  pub high_is : high ≡ top
  pub low_is : low ≡ bottom
  pub big_is : big ≡ fin false 1 (pos digits)

pub numbers_32 :
    Numbers 23 (from_bits binary32 0) (from_bits binary32 0x3f80_0000) (from_bits binary32 0x46ff_fe00)
    (neg (from_bits binary32 0x4700_0000)) (from_bits binary32 0x4b00_0000)
unfolding of_bits neg
numbers_32 = record { zero_is = refl; one_is = refl; high_is = refl; low_is = refl; big_is = refl }

pub numbers_64 :
    Numbers 52 (from_bits binary64 0) (from_bits binary64 0x3ff0_0000_0000_0000) (from_bits binary64 0x40df_ffc0_0000_0000)
    (neg (from_bits binary64 0x40e0_0000_0000_0000)) (from_bits binary64 0x4330_0000_0000_0000)
unfolding of_bits neg
numbers_64 = record { zero_is = refl; one_is = refl; high_is = refl; low_is = refl; big_is = refl }

-- what `==`, `+`, `-` and the sign do to values of a type S
pub record Operates
    (f : Format) {S : Type 0} (float : S → Float) (equal : S → S → Bool)
    (sums differences : S → S → S → Type 0) (opposites : S → S → Type 0) : Type 0 where
  pub equal_is : (x y : S) → equal x y ≡ eq (float x) (float y)
  pub sum_is : (x y r : S) → sums x y r → float r ≡ add f (float x) (float y)
  pub difference_is : (x y r : S) → differences x y r → float r ≡ sub f (float x) (float y)
  pub opposite_is : (x r : S) → opposites x r → float r ≡ neg (float x)

pub operates :
    (f : Format)
    → Operates f (λ x. x) eq (λ x y r. r ≡ add f x y) (λ x y r. r ≡ sub f x y) (λ x r. r ≡ neg x)
operates f = record {
  equal_is = λ x y. refl;
  sum_is = λ x y r h. h;
  difference_is = λ x y r h. h;
  opposite_is = λ x r h. h;
}
