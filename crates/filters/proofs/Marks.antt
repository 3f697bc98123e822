-- The filters of a voice over samples, by their marks: each filter that is on goes over all samples by itself, the simple one first, and
-- one that is off changes nothing. By induction on the samples. Assumes nothing.
use mathlib.Core.Path.{◌≡◌, refl, sym, ap, ◌∙◌, subst}
use mathlib.Core.Bool.{Bool, true, false, cond}
use mathlib.Core.List.{List, [], ◌∷◌}
use Prim.Native.Nat.{ℕ, ◌-◌}
use lib.IntN.{ℤ}
use Rattle.lists.proofs.Bools.{cond_yes, cond_no}
use Rattle.filters.specs.declared.state.SimpleFilter.{SimpleFilter}
use Rattle.filters.specs.declared.state.BiquadFilter.{BiquadFilter}
use Rattle.filters.specs.declared.state.Filters.{Filters}
use Rattle.filters.specs.Filter.{simple_value, biquad_value}
use Rattle.filters.specs.Process.{pass_simple, pass_biquad, pass, passed_from, filters_after}
use Rattle.filters.specs.Inner.{simple_next, biquad_next, all_passed, after_all, with_simple, with_biquad}
use Rattle.filters.proofs.Passes.{the}

-- the samples come out so, and the filters after them are these
abbrev pub Gives : ℕ → Filters → List ℤ → List ℤ → Filters → Type 0
Gives channel f samples out after = (out ≡ passed_from channel f samples) × (after ≡ filters_after channel f samples)

-- ---- what each pair of marks gives

abbrev pub Off : ℕ → Filters → List ℤ → Type 0
Off channel f samples = Gives channel f samples samples f

abbrev pub OnlySimple : ℕ → Filters → List ℤ → Type 0
OnlySimple channel f samples =
    Gives channel f samples (all_passed simple_value simple_next channel f.simple samples)
    (with_simple f (after_all simple_next channel f.simple samples))

abbrev pub OnlyBiquad : ℕ → Filters → List ℤ → Type 0
OnlyBiquad channel f samples =
    Gives channel f samples (all_passed biquad_value biquad_next channel f.biquad samples)
    (with_biquad f (after_all biquad_next channel f.biquad samples))

abbrev pub Both : ℕ → Filters → List ℤ → Type 0
Both channel f samples =
    let between = all_passed simple_value simple_next channel f.simple samples in
    Gives channel f samples (all_passed biquad_value biquad_next channel f.biquad between)
    (with_biquad (with_simple f (after_all simple_next channel f.simple samples)) (after_all biquad_next channel f.biquad between))

pub off : (channel : ℕ) (f : SimpleFilter) (g : BiquadFilter) (samples : List ℤ) → Off channel (the false f false g) samples
unfolding pass pass_simple pass_biquad
off channel f g [] = (refl, refl)
off channel f g (x ∷ samples) =
    let r = off (1 - channel) f g samples in (ap (λ (l : List ℤ). x ∷ l) r.0, r.1)

pub only_simple : (channel : ℕ) (f : SimpleFilter) (g : BiquadFilter) (samples : List ℤ) → OnlySimple channel (the true f false g) samples
unfolding pass pass_simple pass_biquad
only_simple channel f g [] = (refl, refl)
only_simple channel f g (x ∷ samples) =
    let r = only_simple (1 - channel) (simple_next channel f x) g samples in
    (ap (λ (l : List ℤ). simple_value channel f x ∷ l) r.0, r.1)

pub only_biquad : (channel : ℕ) (f : SimpleFilter) (g : BiquadFilter) (samples : List ℤ) → OnlyBiquad channel (the false f true g) samples
unfolding pass pass_simple pass_biquad
only_biquad channel f g [] = (refl, refl)
only_biquad channel f g (x ∷ samples) =
    let r = only_biquad (1 - channel) f (biquad_next channel g x) samples in
    (ap (λ (l : List ℤ). biquad_value channel g x ∷ l) r.0, r.1)

pub both : (channel : ℕ) (f : SimpleFilter) (g : BiquadFilter) (samples : List ℤ) → Both channel (the true f true g) samples
unfolding pass pass_simple pass_biquad
both channel f g [] = (refl, refl)
both channel f g (x ∷ samples) =
    let y = simple_value channel f x in
    let r = both (1 - channel) (simple_next channel f x) (biquad_next channel g y) samples in
    (ap (λ (l : List ℤ). biquad_value channel g y ∷ l) r.0, r.1)

-- what holds of filters of two marks, held by filters that have them
pub marked :
    (P : Filters → Type 0) (f : Filters) (s b : Bool) → f.has_simple ≡ s → f.has_biquad ≡ b → P (the s f.simple b f.biquad)
    → P f
marked P f s b d e p = subst P (sym (λ i. the (d i) f.simple (e i) f.biquad)) p

-- ---- whatever the marks

-- samples through a filter, if its mark is on, and the filter after them
abbrev pub passed_if : {S : Type 0} → (ℕ → S → ℤ → ℤ) → (ℕ → S → ℤ → S) → Bool → S → List ℤ → List ℤ
passed_if value next mark f samples = cond mark (all_passed value next 0 f samples) samples

abbrev pub after_if : {S : Type 0} → (ℕ → S → ℤ → S) → Bool → S → List ℤ → S
after_if next mark f samples = cond mark (after_all next 0 f samples) f

-- what stands between the two filters: the simple one was passed if its mark is on
pub record Between (f : Filters) (samples mid : List ℤ) (g : Filters) : Type 0 where
  pub samples_are : mid ≡ passed_if simple_value simple_next f.has_simple f.simple samples
  pub filters_are : g ≡ with_simple f (after_if simple_next f.has_simple f.simple samples)

pub between_on : (f : Filters) (samples mid : List ℤ) (simple : SimpleFilter) (g : Filters) → f.has_simple ≡ true
    → mid ≡ all_passed simple_value simple_next 0 f.simple samples → simple ≡ after_all simple_next 0 f.simple samples
    → g ≡ with_simple f simple → Between f samples mid g
between_on f samples mid simple g on m s e = record {
  samples_are = m ∙ sym (cond_yes _ _ on);
  filters_are = e ∙ ap (with_simple f) (s ∙ sym (cond_yes _ _ on));
}

pub between_off :
    (f : Filters) (samples mid : List ℤ) (g : Filters) → f.has_simple ≡ false → mid ≡ samples → g ≡ f → Between f samples mid g
between_off f samples mid g off m e = record {
  samples_are = m ∙ sym (cond_no _ _ off);
  filters_are = e ∙ ap (with_simple f) (sym (cond_no _ _ off));
}

by_marks :
    (s : Bool) (f : SimpleFilter) (b : Bool) (g : BiquadFilter) (samples : List ℤ)
    → Gives 0 (the s f b g) samples (passed_if biquad_value biquad_next b g (passed_if simple_value simple_next s f samples))
    (the s (after_if simple_next s f samples) b (after_if biquad_next b g (passed_if simple_value simple_next s f samples)))
by_marks true f true g samples = both 0 f g samples
by_marks true f false g samples = only_simple 0 f g samples
by_marks false f true g samples = only_biquad 0 f g samples
by_marks false f false g samples = off 0 f g samples

-- from there on, by the biquad filter's mark
module _ (f : Filters) (samples mid : List ℤ) (g : Filters) (t : Between f samples mid g) where
  ends : Gives 0 f samples (passed_if biquad_value biquad_next g.has_biquad g.biquad mid)
      (with_biquad g (after_if biquad_next g.has_biquad g.biquad mid))
  ends =
      let law = by_marks f.has_simple f.simple f.has_biquad f.biquad samples in (
        (λ i. passed_if biquad_value biquad_next (t.filters_are i).has_biquad (t.filters_are i).biquad (t.samples_are i)) ∙ law.0,
        (λ i. with_biquad (t.filters_are i) (after_if biquad_next (t.filters_are i).has_biquad (t.filters_are i).biquad (t.samples_are i)))
            ∙ law.1,
      )

  pub ends_off : g.has_biquad ≡ false → Gives 0 f samples mid g
  ends_off e =
      (sym (cond_no _ _ e) ∙ ends.0, ap (with_biquad g) (sym (cond_no (after_all biquad_next 0 g.biquad mid) g.biquad e)) ∙ ends.1)

  pub ends_on :
      g.has_biquad ≡ true
      → Gives 0 f samples (all_passed biquad_value biquad_next 0 g.biquad mid) (with_biquad g (after_all biquad_next 0 g.biquad mid))
  ends_on e =
      (sym (cond_yes _ _ e) ∙ ends.0, ap (with_biquad g) (sym (cond_yes (after_all biquad_next 0 g.biquad mid) g.biquad e)) ∙ ends.1)
