-- The laws of the mixer's numbers: the chain of tests gives a number exactly where its test is the first that holds, by the cases of the
-- tests; and a refused call leaves all, by the cases of the region's number. Assumes nothing.
use mathlib.Core.Path.{◌≡◌, refl, sym, ap, ◌∙◌}
use mathlib.Core.Bool.{Bool, true, false, not, ◌||◌, cond}
use mathlib.Core.List.{List}
use Prim.Native.Nat.{ℕ, ◌≤◌, ◌<◌}
use native.Mathlib.Omega.{arith}
use lib.Dec.{eqb, ltb, lit≤, lit<}
use lib.IntN.{ℤ}
use lib.ListN.{length}
use borrow.Author.Tests.{eqb-true, eqb-false, ltb-true}
use Rattle.layout.specs.Exactly.{Exactly}
use Rattle.layout.specs.Places.{region_most, places_of, inside, apart, layout_number}
use Rattle.layout.specs.declared.Layout.{Layout}
use Rattle.layout.proofs.Places as places
use Rattle.mixer_state.specs.declared.Mixer.{Mixer}
use Rattle.numbers.specs.Sizes.{MIXES}
use Rattle.mixer.specs.Tick.{Mixed, Outcome, number_of, ticked}
use Rattle.mixer.specs.Exactly.{Gives, NoneOfThree, ExactlyIf, RefusedLeavesAll}
use Rattle.mixer.proofs.Outcomes.{chain, by_layout, by_mixes, by_region, none, only_none, refused_is}

gives_layout : (a b c : Bool) (n k : ℕ) → 0 < k → k ≤ 3 → chain a b c n ≡ k → n ≡ k
gives_layout true true true n k p q e = absurd (omega arith)
gives_layout true true false n k p q e = absurd (omega arith)
gives_layout true false c n k p q e = absurd (omega arith)
gives_layout false b c n k p q e = e

gives_six : (a b c : Bool) (n : ℕ) → n ≤ 3 → chain a b c n ≡ 6 → (a ≡ true) × (b ≡ false)
gives_six true true true n h e = absurd (omega arith)
gives_six true true false n h e = absurd (omega arith)
gives_six true false c n h e = (refl, refl)
gives_six false b c n h e = absurd (omega arith)

gives_eight : (a b c : Bool) (n : ℕ) → n ≤ 3 → chain a b c n ≡ 8 → (a ≡ true) × (b ≡ true) × (c ≡ true)
gives_eight true true true n h e = (refl, refl, refl)
gives_eight true true false n h e = absurd (omega arith)
gives_eight true false c n h e = absurd (omega arith)
gives_eight false b c n h e = absurd (omega arith)

at_most_3 : (x y z : Bool) → cond x 1 (cond y 2 (cond z 3 0)) ≤ 3
at_most_3 true y z = lit≤ tt
at_most_3 false true z = lit≤ tt
at_most_3 false false true = lit≤ tt
at_most_3 false false false = lit≤ tt

module _ (l : Layout) (m : Mixer) (mixes : List ℤ) (which : ℕ) (first second : List ℕ) where
  abbrev layout : ℕ
  layout = layout_number (length first) (length second) l

  abbrev number : ℕ
  number = number_of (length first) (length second) l (length mixes) which

  few : layout ≤ 3
  few =
      at_most_3 (not (eqb (length first) (length second)) || ltb region_most (length first)) (not (inside (length first) (places_of l)))
      (not (apart (places_of l)))

  -- the call's number is the chain's
  number_is : Gives l m mixes which first second number
  unfolding ticked
  number_is = go (eqb number 0) _ _ (eqb-true number 0) refl refl
    where
      go : (b : Bool) (x y : Mixed) → (b ≡ true → number ≡ 0) → x.number ≡ 0 → y.number ≡ number → (cond b x y).number ≡ number
      go true x y h p q = p ∙ sym (h refl)
      go false x y h p q = q

  by_chain : (k : ℕ) → 0 < k → k ≤ 3 → Gives l m mixes which first second k → layout ≡ k
  by_chain k p q e = gives_layout (eqb layout 0) (eqb (length mixes) MIXES) (ltb 1 which) layout k p q (sym number_is ∙ e)

  chained : (k : ℕ) → 0 < k → layout ≡ k → Gives l m mixes which first second k
  chained k p e = number_is ∙ by_layout (length first) (length second) l (length mixes) which (λ z. omega arith) ∙ e

  exactly : Exactly (length first) (length second) l
  exactly = places.exactly (length first) (length second) l

  yes_layout : eqb layout 0 ≡ true → NoneOfThree l m mixes which first second
  yes_layout e = exactly.none.0 (eqb-true layout 0 e)

  only_zero : number ≡ 0 → NoneOfThree l m mixes which first second × (length mixes ≡ MIXES) × (which ≤ 1)
  only_zero e =
      let t = only_none (length first) (length second) l (length mixes) which e in
      (exactly.none.0 t.0, t.1, t.2)

  only_six : number ≡ 6 → NoneOfThree l m mixes which first second × (length mixes ≡ MIXES → ⊥)
  only_six e =
      let t = gives_six (eqb layout 0) (eqb (length mixes) MIXES) (ltb 1 which) layout few e in
      (yes_layout t.0, eqb-false (length mixes) MIXES t.1)

  only_eight : number ≡ 8 → NoneOfThree l m mixes which first second × (length mixes ≡ MIXES) × (1 < which)
  only_eight e =
      let t = gives_eight (eqb layout 0) (eqb (length mixes) MIXES) (ltb 1 which) layout few e in
      (yes_layout t.0, eqb-true (length mixes) MIXES t.1, ltb-true 1 which t.2)

  pub exactly_if : ExactlyIf l m mixes which first second
  exactly_if = record {
    zero = (
      λ e. only_zero (sym number_is ∙ e),
      λ s. number_is ∙ none (length first) (length second) l (length mixes) which (exactly.none.1 s.0) s.1 s.2,
    );
    one = (λ e. exactly.one.0 (by_chain 1 (lit< tt) (lit≤ tt) e), λ s. chained 1 (lit< tt) (exactly.one.1 s));
    two = (λ e. exactly.two.0 (by_chain 2 (lit< tt) (lit≤ tt) e), λ s. chained 2 (lit< tt) (exactly.two.1 s));
    three = (λ e. exactly.three.0 (by_chain 3 (lit< tt) (lit≤ tt) e), λ s. chained 3 (lit< tt) (exactly.three.1 s));
    six = (
      λ e. only_six (sym number_is ∙ e),
      λ s. number_is ∙ by_mixes (length first) (length second) l (length mixes) which (exactly.none.1 s.0) s.1,
    );
    eight = (
      λ e. only_eight (sym number_is ∙ e),
      λ s. number_is ∙ by_region (length first) (length second) l (length mixes) which (exactly.none.1 s.0) s.1 s.2,
    );
  }

  pub refused_leaves_all : RefusedLeavesAll l m mixes which first second
  refused_leaves_all h =
      let is = refused_is l m mixes which first second (λ z. h (number_is ∙ z)) in record {
        frame = ap (λ (o : Outcome). o.answer.frame) is;
        state = ap (λ (o : Outcome). o.answer.mixer) is;
        region0 = ap (λ (o : Outcome). o.first) is;
        region1 = ap (λ (o : Outcome). o.second) is;
      }
