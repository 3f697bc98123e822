-- The decoder answers 9 exactly if document 01's sentence of it holds: each test of the definition is one part of the sentence. Assumes
-- nothing.
use mathlib.Core.Path.{◌≡◌, sym, ap, ◌∙◌}
use mathlib.Core.Bool.{true, false}
use mathlib.Core.List.{List}
use mathlib.Core.Logic.{◌⊎◌, inl, inr, ⊎_elim}
use Prim.Native.Nat.{ℕ, ◌*◌, ◌≤◌, ◌<◌}
use native.Mathlib.Decide.{ℕ_discrete}
use native.Mathlib.Omega.{arith}
use lib.IntN.{ℤ}
use lib.ListN.{length}
use borrow.Author.Tests.{lt-ltb, le-ltb, eq-eqb, ne_eqb}
use Rattle.lists.proofs.Bools.{or_no, or_yes, not_yes, not_no, cond_yes, cond_no}
use Rattle.lists.proofs.Walk.{below_or}
use Rattle.adpcm.specs.Decoded.{Decoded}
use Rattle.adpcm.specs.Code.{frames_of}
use Rattle.adpcm.specs.Adpcm.{refused}
use Rattle.adpcm.specs.Nine.{WholeFrames, Refusable, NineExactlyIf}

-- the test, where each of its parts is known
module _ (bytes count places : ℕ) where
  pub many : 65536 < count → refused bytes count places ≡ true
  many k = or_yes _ (lt-ltb 65536 count k)

  pub odd : count ≤ 65536 → (bytes ≡ frames_of count * 8 → ⊥) → refused bytes count places ≡ true
  odd k e = or_no _ (le-ltb 65536 count k) ∙ or_yes _ (not_no (ne_eqb _ _ e))

  pub short : count ≤ 65536 → bytes ≡ frames_of count * 8 → places < count → refused bytes count places ≡ true
  short k e l = or_no _ (le-ltb 65536 count k) ∙ or_no _ (not_yes (eq-eqb _ _ e)) ∙ lt-ltb _ _ l

  pub well : count ≤ 65536 → bytes ≡ frames_of count * 8 → count ≤ places → refused bytes count places ≡ false
  well k e l = or_no _ (le-ltb 65536 count k) ∙ or_no _ (not_yes (eq-eqb _ _ e)) ∙ le-ltb _ _ l

-- the frames of the sentence are those of the definition
frames_are : (bytes : List ℕ) (count : ℕ) → WholeFrames bytes count → length bytes ≡ frames_of count * 8
frames_are bytes count w = omega arith

are_frames : (bytes : List ℕ) (count : ℕ) → length bytes ≡ frames_of count * 8 → WholeFrames bytes count
are_frames bytes count e = record { frames = frames_of count; all = e; enough = omega arith; not_more = omega arith }

-- the test passes and the sentence holds, or neither
abbrev Told : List ℕ → ℕ → List ℤ → Type 0
Told bytes count output =
    ((refused (length bytes) count (length output) ≡ true) × Refusable bytes count output)
    ⊎ ((refused (length bytes) count (length output) ≡ false) × (¬ Refusable bytes count output))

told : (bytes : List ℕ) (count : ℕ) (output : List ℤ) → Told bytes count output
told bytes count output = ⊎_elim (λ l. inl (many _ count _ l, inl l)) few (below_or 65536 count)
  where
    right : count ≤ 65536 → length bytes ≡ frames_of count * 8 → count ≤ length output → ¬ Refusable bytes count output
    right k e l (inl m) = omega arith
    right k e l (inr (inl m)) = m (are_frames bytes count e)
    right k e l (inr (inr m)) = omega arith

    few : count ≤ 65536 → Told bytes count output
    few k = elim (ℕ_discrete (length bytes) (frames_of count * 8)) [
      | no e ↦ inl (odd _ count _ k e, inr (inl (λ w. e (frames_are bytes count w))))
      | yes e ↦ ⊎_elim
          (λ l. inl (short _ count _ k e l, inr (inr l)))
          (λ l. inr (well _ count _ k e l, right k e l))
          (below_or (length output) count)
    ]

abbrev number : Decoded → ℕ
number d = d.number

pub nine_exactly_if : NineExactlyIf
nine_exactly_if = record {
  nine = λ cs h bytes count output. ⊎_elim
      (λ t. ((λ _. t.1), (λ _. ap number (cond_yes _ _ t.0))))
      (λ t. ((λ e. absurd (nine_or_zero (sym (ap number (cond_no _ _ t.0)) ∙ e))), (λ w. absurd (t.1 w))))
      (told bytes count output);
  zero = λ cs h bytes count output. ⊎_elim
      (λ t. ((λ e. absurd (nine_or_zero (sym e ∙ ap number (cond_yes _ _ t.0)))), (λ w. absurd (w t.1))))
      (λ t. ((λ _. t.1), (λ _. ap number (cond_no _ _ t.0))))
      (told bytes count output);
}
  where
    nine_or_zero : ◌≡◌ {A = ℕ} 0 9 → ⊥
    nine_or_zero e = omega arith
