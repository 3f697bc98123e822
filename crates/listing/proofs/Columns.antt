-- What was written to the end of a column of spaces stands right-justified in it, and a sign stored before it too. Assumes nothing.
use Rattle.std.proofs.Common.{◌≡◌, ℕ, suc, ◌+◌, ◌-◌, ◌≤◌, List, ◌∷◌, ◌++◌, length, take, drop, set, replicate, sym, ap, ◌∙◌, arith}
use Rattle.std.proofs.lemmas.List.{append-nil, length-replicate, take-append-drop, take-replicate, take-take, set_split}
use lib.ListN.{length-append}
use Rattle.lists.proofs.Walk.{drop_end}
use Rattle.listing.specs.Text.{column}
use Rattle.listing.specs.Sizes.{width}

-- a column with nothing in it
abbrev pub blank : List ℕ
blank = replicate width 32

-- `new` has some digits from `first` on, up to the column's end
module _ (digits new : List ℕ) (first : ℕ) (start : first + length digits ≡ width)
    (written : drop first new ≡ digits ++ drop width blank) (before : take first new ≡ take first blank) where
  digits_from : drop first new ≡ digits
  digits_from =
      written ∙ ap (λ (l : List ℕ). digits ++ l) (drop_end blank width (omega (arith, length-replicate {A = ℕ} width 32)))
      ∙ append-nil digits

  spaces : (k : ℕ) → k ≤ first → take k new ≡ replicate k 32
  spaces k h =
      sym (take-take k first new h) ∙ ap (take k) before ∙ take-take k first blank h ∙ take-replicate k width 32 (omega (arith, start))

  pub justified : new ≡ column width digits
  justified =
      sym (take-append-drop first new) ∙ (λ j. spaces first (omega arith) j ++ digits_from j)
      ∙ ap (λ (n : ℕ). replicate n 32 ++ digits) (omega (arith, start))

  pub signed : (v : ℕ) → 1 ≤ first → 1 ≤ length digits → set new (first - 1) v ≡ column width (v ∷ digits)
  signed v h some =
      set_split new (first - 1) v (omega (arith, long, start))
      ∙ (λ j. spaces (first - 1) (omega arith) j ++ (v ∷ (ap (λ (n : ℕ). drop n new) one ∙ digits_from) j))
      ∙ ap (λ (n : ℕ). replicate n 32 ++ (v ∷ digits)) (omega (arith, start))
    where
      one : suc (first - 1) ≡ first
      one = omega arith

      long : length new ≡ width
      long = ap length justified ∙ length-append (replicate (width - length digits) 32) digits
          ∙ omega (arith, length-replicate {A = ℕ} (width - length digits) 32, start)
