-- What the mixer's call comes to: which number applies, by the cases of the tests, and what the call is with its number. Assumes nothing.
use mathlib.Core.Path.{◌≡◌, refl, sym, ap, ◌∙◌, subst}
use mathlib.Core.Bool.{Bool, true, false, not, cond}
use mathlib.Core.List.{List}
use Prim.Native.Nat.{ℕ, zero, suc, ◌≤◌, ◌<◌}
use native.Mathlib.Omega.{arith}
use lib.Dec.{eqb, ltb, lit<}
use lib.IntN.{ℤ}
use lib.ListN.{length}
use borrow.Author.Tests.{eqb-true, eqb-false, ltb-false, lt-ltb, le-ltb, eq-eqb, ne_eqb}
use Rattle.lists.proofs.Bools.{cond_yes, cond_no, not_yes, not_no}
use Rattle.layout.specs.Places.{layout_number}
use Rattle.layout.specs.declared.Layout.{Layout}
use Rattle.layout.specs.Exactly.{Sound}
use Rattle.layout.proofs.Places as places
use Rattle.mixer_state.specs.declared.Mixer.{Mixer}
use Rattle.numbers.specs.Sizes.{MIXES}
use Rattle.mixer.specs.Inner.{Roomy}
use Rattle.mixer.specs.Tick.{number_of, Outcome, exchanged, refusal, served, left, ticked}

-- ---- the number

-- the chain of tests, by their outcomes: n is the layout's number, a that it is 0, b that the mixes are right, c that the region number is
-- not
abbrev pub chain : Bool → Bool → Bool → ℕ → ℕ
chain a b c n = cond a (cond (not b) 6 (cond c 8 0)) n

gives_zero : (a b c : Bool) (n : ℕ) → (a ≡ false → n ≡ 0 → ⊥) → chain a b c n ≡ 0 → (a ≡ true) × (b ≡ true) × (c ≡ false)
gives_zero true true true n h e = absurd (omega arith)
gives_zero true true false n h e = (refl, refl, refl)
gives_zero true false c n h e = absurd (omega arith)
gives_zero false b c n h e = absurd (h refl e)

module _ (first second : ℕ) (l : Layout) (mixes which : ℕ) where
  pub by_layout : (layout_number first second l ≡ 0 → ⊥) → number_of first second l mixes which ≡ layout_number first second l
  by_layout h = cond_no _ _ (ne_eqb (layout_number first second l) 0 h)

  pub by_mixes : layout_number first second l ≡ 0 → (mixes ≡ MIXES → ⊥) → number_of first second l mixes which ≡ 6
  by_mixes e h = cond_yes _ _ (eq-eqb (layout_number first second l) 0 e) ∙ cond_yes _ _ (not_no (ne_eqb mixes MIXES h))

  pub by_region : layout_number first second l ≡ 0 → mixes ≡ MIXES → 1 < which → number_of first second l mixes which ≡ 8
  by_region e m h =
      cond_yes _ _ (eq-eqb (layout_number first second l) 0 e)
      ∙ cond_no _ _ (not_yes (eq-eqb mixes MIXES m))
      ∙ cond_yes _ _ (lt-ltb 1 which h)

  pub none : layout_number first second l ≡ 0 → mixes ≡ MIXES → which ≤ 1 → number_of first second l mixes which ≡ 0
  none e m h =
      cond_yes _ _ (eq-eqb (layout_number first second l) 0 e)
      ∙ cond_no _ _ (not_yes (eq-eqb mixes MIXES m))
      ∙ cond_no _ _ (le-ltb 1 which h)

  pub only_none : number_of first second l mixes which ≡ 0 → (layout_number first second l ≡ 0) × (mixes ≡ MIXES) × (which ≤ 1)
  only_none e =
      let n = layout_number first second l in
      let t = gives_zero (eqb n 0) (eqb mixes MIXES) (ltb 1 which) n (eqb-false n 0) e in
      (eqb-true n 0 t.0, eqb-true mixes MIXES t.1, ltb-false 1 which t.2)

  -- regions that have a layout are as long, and have room for what the mixer uses
  pub rooms : layout_number first second l ≡ 0 → Roomy l first × Roomy l second
  rooms e = (roomy, subst (Roomy l) accepted.same roomy)
    where
      accepted : Sound first second l
      accepted = places.accepted first second l e

      roomy : Roomy l first
      roomy =
          let w = accepted.within in
          record { configuration = w 4 (lit< tt); final = w 5 (lit< tt); intermediate = w 6 (lit< tt) }

-- ---- the call with its number

module _ (l : Layout) (m : Mixer) (mixes : List ℤ) (which : ℕ) (first second : List ℕ) where
  abbrev number : ℕ
  number = number_of (length first) (length second) l (length mixes) which

  -- a call by the region's number and by the test of its own
  abbrev tested : ℕ → Bool → Outcome
  tested w b =
      let used = exchanged w (first, second) in
      let regions = exchanged w (cond b (left l m mixes used) used) in
      record { answer = cond b (served l m mixes used.0) (refusal m number); first = regions.0; second = regions.1 }

  -- one that is refused leaves all
  nothing : (w : ℕ) → tested w false ≡ record { answer = refusal m number; first = first; second = second }
  nothing zero = refl
  nothing (suc k) = refl

  pub refused_is :
      (number ≡ 0 → ⊥)
      → ticked l m mixes which first second ≡ record { answer = refusal m number; first = first; second = second }
  unfolding ticked
  refused_is h = ap (tested which) (ne_eqb number 0 h) ∙ nothing which

-- a call that is served, by the number of the region that is read; its mixes are those given
module _ (l : Layout) (m : Mixer) (mixes given : List ℤ) (which : ℕ) (first second : List ℕ) where
  pub served_is :
      (w : ℕ) → 0 ≡ number_of (length first) (length second) l (length given) which → which ≡ w → mixes ≡ given
      → tested l m mixes which first second w true ≡ ticked l m given which first second
  unfolding ticked
  served_is w e z same =
      (λ i. tested l m (same i) which first second w true)
      ∙ sym (λ i. tested l m given which first second (z i) (eq-eqb (number l m given which first second) 0 (sym e) i))
