-- The digits of the definition are those that std's definition has, which appends the last digit too. Assumes nothing.
use Rattle.std.proofs.Common.{◌≡◌, ℕ, suc, ◌+◌, ◌/◌, ◌^◌, ◌≤◌, ◌<◌, List, [], ◌∷◌, ◌++◌, length, ℤ, pos, negsuc, ap, ◌∙◌, sym, arith, SFits}
use Rattle.std.proofs.Common.{to_z, of_z, to_z-of_z, true, false, true≢false, int_lt, unsigned_abs, ltb-true, refl}
use lib.Signed.{mag}
use mir.Syntax.{w16}
use Rattle.std.specs.Fmt as fmt
use Rattle.std.proofs.lemmas.Fmt.{AppendsLastDigit, decimal_from_appends, decimal_nonempty}
use Rattle.std.proofs.lemmas.Fmt.{length-decimal-le, length-decimal-le_succ, length_signed_le}
use borrow.Author.Tests.{lt-ltb, le-ltb}
use Rattle.lists.proofs.Bools.{cond_yes, cond_no}
use Rattle.listing.specs.Text.{last_digit, decimal_in, decimal, signed_decimal, column}
use Rattle.listing.specs.Sizes.{width, most_samples}

-- after the digits of its tenth part, or after none, the last digit
abbrev last : List ℕ → ℕ → List ℕ
last digits n = digits ++ (last_digit n ∷ [])

appends : AppendsLastDigit decimal_in
appends = record {
  one = λ turns n h.
      ap (λ (l : List ℕ). last l n) (cond_yes [] (decimal_in turns (n / 10)) (lt-ltb n 10 h)) ∙ ap (λ (k : ℕ). (48 + k) ∷ []) (omega arith);
  more = λ turns n h. ap (λ (l : List ℕ). last l n) (cond_no [] (decimal_in turns (n / 10)) (le-ltb n 10 h));
}

pub same_decimal : (n : ℕ) → n < 2 ^ 64 → fmt.decimal n ≡ decimal n
unfolding decimal
same_decimal n h = sym (decimal_from_appends decimal_in appends (suc n) n h (omega (arith, length-decimal-le_succ n h)))

pub same_signed : (z : ℤ) → mag z < 2 ^ 63 → fmt.signed_decimal z ≡ signed_decimal z
same_signed (pos n) h = same_decimal n (omega arith)
same_signed (negsuc n) h = ap (λ (digits : List ℕ). 45 ∷ digits) (same_decimal (suc n) (omega arith))

-- a sample as the code reads it: its column, and that it fits one
module _ {z : ℤ} (f : SFits w16 z) where
  small : mag z < 2 ^ 15
  small = f.sfits

  pub shown : column width (fmt.signed_decimal (to_z w16 (of_z w16 z))) ≡ column width (signed_decimal z)
  shown = ap (λ (y : ℤ). column width (fmt.signed_decimal y)) (to_z-of_z f) ∙ ap (column width) (same_signed z (omega arith))

  pub sample_narrow : length (fmt.signed_decimal (to_z w16 (of_z w16 z))) ≤ width
  sample_narrow =
      let e = ap (λ (y : ℤ). length (fmt.signed_decimal y)) (to_z-of_z f) in
      let short = length_signed_le 5 z (omega arith) (omega arith) in
      omega arith

-- a sample's text by the sign that the code tests
pub plain : (z : ℤ) → int_lt z (pos 0) ≡ false → fmt.decimal (unsigned_abs z) ≡ fmt.signed_decimal z
plain (pos n) e = refl
plain (negsuc n) e = absurd (true≢false e)

pub minus : (z : ℤ) → int_lt z (pos 0) ≡ true → 45 ∷ fmt.decimal (unsigned_abs z) ≡ fmt.signed_decimal z
minus (pos n) e = absurd (omega (arith, ltb-true n 0 e))
minus (negsuc n) e = refl

-- what is no more than the least sample's distance from 0 has one to five digits
pub few_digits : (n : ℕ) → n ≤ 2 ^ 15 → (1 ≤ length (fmt.decimal n)) × (length (fmt.decimal n) ≤ 5)
few_digits n h = (decimal_nonempty n (omega arith), length-decimal-le 5 n (omega arith) (omega arith) (omega arith))

-- an index below the largest count fits a column
pub index_narrow : (n : ℕ) → n < most_samples → length (fmt.decimal n) ≤ width
index_narrow n h = let short = length-decimal-le 5 n (omega arith) (omega arith) (omega arith) in omega arith
