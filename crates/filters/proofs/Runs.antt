-- Samples put through one filter in their place, whatever the filter: what holds at the head of a loop over them, and that a sample more
-- keeps it, since what is left comes out of the filter as it is then. Assumes nothing.
use mathlib.Core.Path.{◌≡◌, refl, sym, ap, ◌∙◌, subst}
use mathlib.Core.List.{List, [], ◌∷◌}
use Prim.Native.Nat.{ℕ, suc, ◌+◌, ◌-◌, ◌<◌}
use native.Mathlib.Omega.{arith}
use lib.IntN.{ℤ, pos}
use lib.ListN.{length, drop, get_or}
use Rattle.lists.proofs.Fill.{Filling, filling_more, filling_next}
use Rattle.lists.proofs.Walk.{drop_next}
use Rattle.filters.specs.Inner.{one_passed, all_passed, after_all}

module _ {S : Type 0} (value : ℕ → S → ℤ → ℤ) (next : ℕ → S → ℤ → S) where
  pub length_all : (channel : ℕ) (f : S) (samples : List ℤ) → length (all_passed value next channel f samples) ≡ length samples
  length_all channel f [] = refl
  length_all channel f (x ∷ samples) = ap suc (length_all (1 - channel) (next channel f x) samples)

  -- the first i samples done, the next one of the channel given
  pub record Done (first : S) (old now : List ℤ) (f : S) (channel i : ℕ) : Type 0 where
    pub filling : Filling (all_passed value next 0 first old) old now i
    pub left : drop i (all_passed value next 0 first old) ≡ all_passed value next channel f (drop i old)
    pub after : after_all next 0 first old ≡ after_all next channel f (drop i old)

  module _ (first : S) (old : List ℤ) where
    abbrev goal : List ℤ
    goal = all_passed value next 0 first old

    pub turn :
        (now : List ℤ) (f : S) (channel i : ℕ) (out : List ℤ) (g : S) → i < length old → Done first old now f channel i
        → out ≡ one_passed value channel f now i → g ≡ next channel f (get_or now i (pos 0)) → Done first old out g (1 - channel) (i + 1)
    turn now f channel i out g h d e q = record {
      filling =
          subst (λ (l : List ℤ). Filling goal old l (i + 1)) (sym e)
          (filling_more goal old now i (value channel f (get_or now i (pos 0))) (pos 0) (length_all 0 first old) h d.filling
          (ap (value channel f) was ∙ sym (ap (λ (l : List ℤ). get_or l 0 (pos 0)) parts)));
      left = ap (λ (l : List ℤ). drop 1 l) parts ∙ ap (λ (s : S). all_passed value next (1 - channel) s (drop (i + 1) old)) (sym then);
      after = d.after ∙ ap (after_all next channel f) one ∙ ap (λ (s : S). after_all next (1 - channel) s (drop (i + 1) old)) (sym then);
    }
      where
        was : get_or now i (pos 0) ≡ get_or old i (pos 0)
        was = filling_next goal old now i (pos 0) (length_all 0 first old) d.filling

        then : g ≡ next channel f (get_or old i (pos 0))
        then = q ∙ ap (next channel f) was

        one : drop i old ≡ get_or old i (pos 0) ∷ drop (i + 1) old
        one = drop_next old i (pos 0) h

        parts : get_or goal i (pos 0) ∷ drop (i + 1) goal
            ≡ value channel f (get_or old i (pos 0)) ∷ all_passed value next (1 - channel) (next channel f (get_or old i (pos 0)))
            (drop (i + 1) old)
        parts =
            sym (drop_next goal i (pos 0) (omega (arith, length_all 0 first old))) ∙ d.left ∙ ap (all_passed value next channel f) one

    -- the same, the next index and its channel by equations
    pub turn_to :
        (now : List ℤ) (f : S) (channel i c k : ℕ) (out : List ℤ) (g : S) → 1 - channel ≡ c → i + 1 ≡ k → i < length old
        → Done first old now f channel i → out ≡ one_passed value channel f now i → g ≡ next channel f (get_or now i (pos 0))
        → Done first old out g c k
    turn_to now f channel i c k out g turned to h d e q =
        subst (λ (b : ℕ). Done first old out g b k) turned
        (subst (λ (j : ℕ). Done first old out g (1 - channel) j) to (turn now f channel i out g h d e q))

    -- four samples more, left and right in turn
    pub four :
        {now out₁ out₂ out₃ out₄ : List ℤ} {f g₁ g₂ g₃ g₄ : S} (i k : ℕ) → i + 4 ≡ k → i + 3 < length old → Done first old now f 0 i
        → out₁ ≡ one_passed value 0 f now i → g₁ ≡ next 0 f (get_or now i (pos 0))
        → out₂ ≡ one_passed value 1 g₁ out₁ (i + 1) → g₂ ≡ next 1 g₁ (get_or out₁ (i + 1) (pos 0))
        → out₃ ≡ one_passed value 0 g₂ out₂ (i + 2) → g₃ ≡ next 0 g₂ (get_or out₂ (i + 2) (pos 0))
        → out₄ ≡ one_passed value 1 g₃ out₃ (i + 3) → g₄ ≡ next 1 g₃ (get_or out₃ (i + 3) (pos 0)) → Done first old out₄ g₄ 0 k
    four {now} {out₁} {out₂} {out₃} {out₄} {f} {g₁} {g₂} {g₃} {g₄} i k to h d e₁ q₁ e₂ q₂ e₃ q₃ e₄ q₄ =
        turn_to out₃ g₃ 1 (i + 3) 0 k out₄ g₄ refl (omega arith) h
        (turn_to out₂ g₂ 0 (i + 2) 1 (i + 3) out₃ g₃ refl (omega arith) (omega arith)
        (turn_to out₁ g₁ 1 (i + 1) 0 (i + 2) out₂ g₂ refl (omega arith) (omega arith)
        (turn now f 0 i out₁ g₁ (omega arith) d e₁ q₁) e₂ q₂) e₃ q₃) e₄ q₄
