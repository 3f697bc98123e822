-- When each number of a list of rules is given: the rules are walked, and since the numbers rise no later rule gives an earlier one's.
-- Assumes nothing.
use mathlib.Core.Path.{◌≡◌, refl, sym, ◌∙◌, subst}
use Prim.Native.Nat.{ℕ, zero, suc, ◌≤◌, ◌<◌, zero-le}
use native.Mathlib.Nat.{le_of_suc-le-suc, not-suc-le-zero}
use native.Mathlib.Omega.{arith}
use mathlib.Core.Bool.{Bool, true, false}
use mathlib.Core.List.{List, [], ◌∷◌}
use mathlib.Core.Logic.{◌⊎◌, inl, inr, ⊎_elim, ◌↔◌}
use lib.Dec.{ltb}
use lib.ListN.{length, get_or}
use borrow.Author.Tests.{ltb-true}
use Rattle.lists.specs.Lowest.{Rule, rule, lowest, rising, First, None, Given, LowestGiven}
use Rattle.lists.proofs.Bools.{clash, and_both, cond_yes, cond_no}
use Rattle.lists.proofs.Walk.{below_or}

-- a test holds, or it does not
pub holds_or : (b : Bool) → (b ≡ true) ⊎ (b ≡ false)
holds_or true = inl refl
holds_or false = inr refl

-- a test that says a sentence fails exactly if the sentence does not hold
pub fails_if : {S : Type 0} (b : Bool) → (b ≡ true) ↔ S → (b ≡ false) ↔ (S → ⊥)
fails_if true e = (λ f s. clash f, λ n. absurd (n (e.0 refl)))
fails_if false e = (λ f s. clash (sym (e.1 s)), λ n. refl)

module _ (n : ℕ) (r : Rule) (rs : List Rule) (up : rising n (r ∷ rs) ≡ true) where
  first_above : n < r.number
  first_above = ltb-true n r.number (and_both (ltb n r.number) (rising r.number rs) up).0

  later_rise : rising r.number rs ≡ true
  later_rise = (and_both (ltb n r.number) (rising r.number rs) up).1

-- every number of rising rules lies above the bound, and so does what they give, or it is 0
each_above : (n : ℕ) (rs : List Rule) → rising n rs ≡ true → (i : ℕ) → i < length rs → n < (get_or rs i (rule false 0)).number
each_above n [] up i h = absurd (not-suc-le-zero h)
each_above n (r ∷ rs) up zero h = first_above n r rs up
each_above n (r ∷ rs) up (suc i) h =
    omega (arith, first_above n r rs up, each_above r.number rs (later_rise n r rs up) i (le_of_suc-le-suc h))

given_above : (n : ℕ) (rs : List Rule) → rising n rs ≡ true → (lowest rs ≡ 0) ⊎ (n < lowest rs)
given_above n [] up = inl refl
given_above n (r ∷ rs) up = go (holds_or r.applies) (given_above r.number rs (later_rise n r rs up))
  where
    go :
        (r.applies ≡ true) ⊎ (r.applies ≡ false) → (lowest rs ≡ 0) ⊎ (r.number < lowest rs)
        → (lowest (r ∷ rs) ≡ 0) ⊎ (n < lowest (r ∷ rs))
    go (inl t) d = inr (omega (arith, first_above n r rs up, cond_yes r.number (lowest rs) t))
    go (inr f) (inl z) = inl (cond_no r.number (lowest rs) f ∙ z)
    go (inr f) (inr g) = inr (omega (arith, first_above n r rs up, cond_no r.number (lowest rs) f))

number_first :
    (n : ℕ) (rs : List Rule) → rising n rs ≡ true → (i : ℕ) → i < length rs → lowest rs ≡ (get_or rs i (rule false 0)).number → First rs i
number_first n [] up i h e = absurd (not-suc-le-zero h)
number_first n (r ∷ rs) up zero h e = go (holds_or r.applies) (given_above r.number rs (later_rise n r rs up))
  where
    go : (r.applies ≡ true) ⊎ (r.applies ≡ false) → (lowest rs ≡ 0) ⊎ (r.number < lowest rs) → r.applies ≡ true
    go (inl t) d = t
    go (inr f) (inl z) = absurd (omega (arith, first_above n r rs up, cond_no r.number (lowest rs) f))
    go (inr f) (inr g) = absurd (omega (arith, cond_no r.number (lowest rs) f))
number_first n (r ∷ rs) up (suc i) h e =
    go (holds_or r.applies) (λ d. number_first r.number rs (later_rise n r rs up) i (le_of_suc-le-suc h) d)
  where
    go : (r.applies ≡ true) ⊎ (r.applies ≡ false) → (lowest rs ≡ (get_or rs i (rule false 0)).number → First rs i) → First (r ∷ rs) (suc i)
    go (inl t) more =
        absurd (omega (arith, cond_yes r.number (lowest rs) t, each_above r.number rs (later_rise n r rs up) i (le_of_suc-le-suc h)))
    go (inr f) more = (f, more (sym (cond_no r.number (lowest rs) f) ∙ e))

first_number : (rs : List Rule) (i : ℕ) → First rs i → lowest rs ≡ (get_or rs i (rule false 0)).number
first_number [] i f = absurd f
first_number (r ∷ rs) zero f = cond_yes r.number (lowest rs) f
first_number (r ∷ rs) (suc i) f = cond_no r.number (lowest rs) f.0 ∙ first_number rs i f.1

zero_none : (n : ℕ) (rs : List Rule) → rising n rs ≡ true → lowest rs ≡ 0 → None rs
zero_none n [] up e = tt
zero_none n (r ∷ rs) up e = go (holds_or r.applies) (λ d. zero_none r.number rs (later_rise n r rs up) d)
  where
    go : (r.applies ≡ true) ⊎ (r.applies ≡ false) → (lowest rs ≡ 0 → None rs) → None (r ∷ rs)
    go (inl t) more = absurd (omega (arith, first_above n r rs up, cond_yes r.number (lowest rs) t))
    go (inr f) more = (f, more (sym (cond_no r.number (lowest rs) f) ∙ e))

none_zero : (rs : List Rule) → None rs → lowest rs ≡ 0
none_zero [] f = refl
none_zero (r ∷ rs) f = cond_no r.number (lowest rs) f.0 ∙ none_zero rs f.1

pub lowest_given : (rs : List Rule) → rising 0 rs ≡ true → Given rs
lowest_given rs up = record {
  given = λ i h. (λ e. number_first 0 rs up i h e, λ f. first_number rs i f);
  nothing = (λ e. zero_none 0 rs up e, λ f. none_zero rs f);
}

-- ---- in words

-- from one number on: each rule's test says its number's sentence, and the sentence of no other number holds
pub data Told (S : ℕ → Type 0) : ℕ → List Rule → Type 0 where
  told_none : {from : ℕ} → ((n : ℕ) → from ≤ n → S n → ⊥) → Told S from []
  told_rule : {from : ℕ} {r : Rule} {rs : List Rule}
      → ((n : ℕ) → from ≤ n → n < r.number → S n → ⊥) → (r.applies ≡ true) ↔ S r.number → Told S (suc r.number) rs
      → Told S from (r ∷ rs)

-- of the next number there is a rule
pub told_next : {S : ℕ → Type 0} {n : ℕ} {rs : List Rule} (b : Bool) → (b ≡ true) ↔ S n → Told S (suc n) rs → Told S n (rule b n ∷ rs)
told_next {n} b e t = told_rule (λ k h l s. none k h l) e t
  where
    none : (k : ℕ) → n ≤ k → k < n → ⊥
    none k h l = omega arith

-- what is given: 0, and no sentence holds; or a number whose sentence is the first that holds
abbrev Told-of : (ℕ → Type 0) → ℕ → ℕ → Type 0
Told-of S from given =
    ((given ≡ 0) × ((n : ℕ) → from ≤ n → S n → ⊥)) ⊎ ((0 < given) × S given × ((n : ℕ) → from ≤ n → n < given → S n → ⊥))

told : (S : ℕ → Type 0) (from lo : ℕ) (rs : List Rule) → rising lo rs ≡ true → Told S from rs → Told-of S from (lowest rs)
told S from lo [] up (told_none t) = inl (refl, t)
told S from lo (r ∷ rs) up (told_rule gap says t) =
    go (holds_or r.applies) (told S (suc r.number) r.number rs (later_rise lo r rs up) t)
  where
    -- where the first test fails, its number's sentence does not hold, so none does until the later rules' numbers
    before : r.applies ≡ false → (n : ℕ) → from ≤ n → n ≤ r.number → S n → ⊥
    before f n h k s = ⊎_elim (λ l. gap n h l s) (λ l. clash (sym (says.1 (subst S (at l) s)) ∙ f)) (below_or n r.number)
      where
        at : r.number ≤ n → n ≡ r.number
        at l = omega arith

    go : (r.applies ≡ true) ⊎ (r.applies ≡ false) → Told-of S (suc r.number) (lowest rs) → Told-of S from (lowest (r ∷ rs))
    go (inl e) d =
        subst (Told-of S from) (sym (cond_yes r.number (lowest rs) e)) (inr (omega (arith, first_above lo r rs up), says.0 e, gap))
    go (inr f) (inl d) =
        subst (Told-of S from) (sym (cond_no r.number (lowest rs) f))
        (inl (d.0, λ n h s. ⊎_elim (λ l. d.1 n l s) (λ l. before f n h l s) (below_or r.number n)))
    go (inr f) (inr d) =
        subst (Told-of S from) (sym (cond_no r.number (lowest rs) f))
        (inr (d.0, d.1, λ n h k s. ⊎_elim (λ l. d.2 n l k s) (λ l. before f n h l s) (below_or r.number n)))

pub lowest_told : (S : ℕ → Type 0) (rs : List Rule) → rising 0 rs ≡ true → Told S 0 rs → LowestGiven S (lowest rs)
lowest_told S rs up t = record {
  none = (λ e. none e is, λ n. nothing n is);
  number = λ n h. (λ e. only n h e is, λ s. first n s is);
}
  where
    is : Told-of S 0 (lowest rs)
    is = told S 0 0 rs up t

    none : lowest rs ≡ 0 → Told-of S 0 (lowest rs) → (n : ℕ) → S n → ⊥
    none e (inl d) n s = d.1 n zero-le s
    none e (inr d) n s = omega (arith, d.0)

    nothing : ((n : ℕ) → S n → ⊥) → Told-of S 0 (lowest rs) → lowest rs ≡ 0
    nothing n (inl d) = d.0
    nothing n (inr d) = absurd (n (lowest rs) d.1)

    only : (n : ℕ) → 0 < n → lowest rs ≡ n → Told-of S 0 (lowest rs) → S n × ((k : ℕ) → k < n → S k → ⊥)
    only n h e (inl d) = absurd (omega (arith, d.0))
    only n h e (inr d) = (subst S e d.1, λ k l s. d.2 k zero-le (omega arith) s)

    first : (n : ℕ) → S n × ((k : ℕ) → k < n → S k → ⊥) → Told-of S 0 (lowest rs) → lowest rs ≡ n
    first n s (inl d) = absurd (d.1 n zero-le s.0)
    first n s (inr d) =
        ⊎_elim (λ l. absurd (s.1 (lowest rs) l d.1)) (λ l. ⊎_elim (λ k. absurd (d.2 n zero-le k s.0)) (λ k. both l k)
        (below_or n (lowest rs))) (below_or (lowest rs) n)
      where
        both : n ≤ lowest rs → lowest rs ≤ n → lowest rs ≡ n
        both l k = omega arith
