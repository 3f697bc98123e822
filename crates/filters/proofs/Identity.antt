-- "Defaults are identities": filters of the default coefficients, whatever their marks and their state, give the samples themselves.
-- Assumes nothing.
use mathlib.Core.Path.{◌≡◌, refl, sym, ap, ◌∙◌, subst}
use mathlib.Core.Bool.{Bool, true, false}
use mathlib.Core.List.{[], ◌∷◌}
use Prim.Native.Nat.{ℕ, suc, ◌+◌, ◌-◌, ◌*◌, ◌<◌, ◌≤◌}
use native.Mathlib.Nat.{mul-suc, mul-le-mul, mul-div_right, mul-add-div, div-eq_of_lt}
use native.Mathlib.Omega.{arith}
use lib.IntN.{ℤ, pos, negsuc, neg_ℤ, ◌+ℤ◌, ◌*ℤ◌, zero-*ℤ, +ℤ_idr}
use lib.ListN.{get_or}
use lib.Signed.{shr_z}
use mir.Syntax.{w16}
use mir.Val.{SFits}
use borrow.Author.Tests.{le-ltb}
use Rattle.lists.proofs.Bools.{cond_no}
use Rattle.numbers.specs.Wrap.{wrap32, clamp16}
use Rattle.numbers.proofs.Ranges.{wrap_self}
use Rattle.filters.specs.declared.state.SimpleFilter.{SimpleFilter}
use Rattle.filters.specs.declared.state.BiquadFilter.{BiquadFilter}
use Rattle.filters.specs.declared.state.Filters.{Filters}
use Rattle.filters.specs.Passed.{Passed}
use Rattle.filters.specs.Defaults.{default_biquad}
use Rattle.filters.specs.Filter.{simple_sum, simple_value, biquad_sum, biquad_value}
use Rattle.filters.specs.Process.{pass_simple, pass_biquad, pass}
use Rattle.filters.specs.Identity.{Default, DefaultsAreIdentities}
use Rattle.filters.proofs.Passes.{the, first_fits, rest_fit}

-- ---- a sample scaled up and down again

clamp_self : (x : ℤ) → SFits w16 x → clamp16 x ≡ x
clamp_self (pos n) h = cond_no (pos 32767) (pos n) (le-ltb 32767 n (top h.sfits))
  where
    top : n < 32768 → n ≤ 32767
    top k = omega arith
clamp_self (negsuc n) h = cond_no (negsuc 32767) (negsuc n) (le-ltb 32767 n (top h.sfits))
  where
    top : n < 32768 → n ≤ 32767
    top k = omega arith

minus : (k m : ℕ) → k ≡ suc m → neg_ℤ (pos k) ≡ negsuc m
minus k m e = ap (λ (n : ℕ). neg_ℤ (pos n)) e

-- m is suc k: 32 bits hold m x, and its m-th part is x
module _ (k : ℕ) (h : k < 32768) where
  most : (n : ℕ) → n < 32768 → suc k * n ≤ 1073741824
  most n l = mul-le-mul {n₁ = suc k} {m₁ = n} {n₂ = 32768} {m₂ = 32768} h (omega arith)

  scaled : (x : ℤ) → SFits w16 x → clamp16 (shr_z (wrap32 (pos (suc k) *ℤ x)) (suc k)) ≡ x
  scaled (pos n) f =
      ap (λ (z : ℤ). clamp16 (shr_z z (suc k))) (wrap_self (pos (suc k * n)) (record { sfits = small (most n f.sfits) }))
      ∙ ap (λ (q : ℕ). clamp16 (pos q)) (mul-div_right n {m = suc k} (omega arith))
      ∙ clamp_self (pos n) f
    where
      small : {p : ℕ} → p ≤ 1073741824 → p < 2147483648
      small l = omega arith
  scaled (negsuc n) f =
      ap (λ (z : ℤ). clamp16 (shr_z (wrap32 z) (suc k))) (minus (suc k * suc n) (suc k * n + k) (mul-suc (suc k) n ∙ one_less (suc k * n)))
      ∙ ap (λ (z : ℤ). clamp16 (shr_z z (suc k))) (wrap_self (negsuc (suc k * n + k)) (record { sfits = small (most n f.sfits) }))
      ∙ ap (λ (q : ℕ). clamp16 (negsuc q))
      (mul-add-div {m = suc k} (omega arith) n k ∙ ap (λ (q : ℕ). n + q) (div-eq_of_lt {n = k} {m = suc k} (omega arith)) ∙ none)
      ∙ clamp_self (negsuc n) f
    where
      one_less : (p : ℕ) → p + suc k ≡ suc (p + k)
      one_less p = omega arith

      small : {p : ℕ} → p ≤ 1073741824 → p + k < 2147483648
      small l = omega arith

      none : n + 0 ≡ n
      none = omega arith

-- ---- a filter of the default coefficients

-- a sum to which a product by 0 is added
no_more : (s y : ℤ) → s +ℤ pos 0 *ℤ y ≡ s
no_more s y = ap (λ (z : ℤ). s +ℤ z) (zero-*ℤ y) ∙ +ℤ_idr s

pub simple_identity :
    (channel : ℕ) (f : SimpleFilter) (x : ℤ) → f.b0 ≡ pos 32768 → f.a1 ≡ pos 0 → SFits w16 x → simple_value channel f x ≡ x
unfolding simple_value simple_sum
simple_identity channel f x b a h =
    ap (λ (z : ℤ). clamp16 (shr_z (wrap32 z) 32768))
    ((λ i. b i *ℤ x +ℤ a i *ℤ get_or f.y1 channel (pos 0)) ∙ no_more (pos 32768 *ℤ x) (get_or f.y1 channel (pos 0)))
    ∙ scaled 32767 (omega arith) x h

pub biquad_identity :
    (channel : ℕ) (f : BiquadFilter) (x : ℤ) → f.b ≡ default_biquad.b → f.a ≡ default_biquad.a → SFits w16 x → biquad_value channel f x ≡ x
unfolding biquad_value biquad_sum
biquad_identity channel f x b a h =
    let x1 = get_or f.x channel (pos 0) in
    let x2 = get_or f.x (channel + 2) (pos 0) in
    let y1 = get_or f.y channel (pos 0) in
    let y2 = get_or f.y (channel + 2) (pos 0) in
    let s = pos 16384 *ℤ x in
    ap (λ (z : ℤ). clamp16 (shr_z (wrap32 z) 16384))
    ((λ i. get_or (b i) 0 (pos 0) *ℤ x +ℤ get_or (b i) 1 (pos 0) *ℤ x1 +ℤ get_or (b i) 2 (pos 0) *ℤ x2
    +ℤ get_or (a i) 0 (pos 0) *ℤ y1 +ℤ get_or (a i) 1 (pos 0) *ℤ y2)
    ∙ no_more (s +ℤ pos 0 *ℤ x1 +ℤ pos 0 *ℤ x2 +ℤ pos 0 *ℤ y1) y2
    ∙ no_more (s +ℤ pos 0 *ℤ x1 +ℤ pos 0 *ℤ x2) y1
    ∙ no_more (s +ℤ pos 0 *ℤ x1) x2
    ∙ no_more s x1)
    ∙ scaled 16383 (omega arith) x h

-- ---- the filters of a voice

record Same (x : ℤ) (p : Passed) : Type 0 where
  value : p.value ≡ x
  filters : Default p.filters

module _ (channel : ℕ) (x : ℤ) (h : SFits w16 x) where
  by_simple :
      (s : Bool) (f : SimpleFilter) (b : Bool) (g : BiquadFilter) → Default (the s f b g) → Same x (pass_simple channel (the s f b g) x)
  unfolding pass_simple
  by_simple true f b g d =
      record { value = simple_identity channel f x d.b0 d.a1 h; filters = record { b0 = d.b0; a1 = d.a1; b = d.b; a = d.a } }
  by_simple false f b g d = record { value = refl; filters = d }

  by_biquad :
      (s : Bool) (f : SimpleFilter) (b : Bool) (g : BiquadFilter) → Default (the s f b g) → Same x (pass_biquad channel (the s f b g) x)
  unfolding pass_biquad
  by_biquad s f true g d =
      record { value = biquad_identity channel g x d.b d.a h; filters = record { b0 = d.b0; a1 = d.a1; b = d.b; a = d.a } }
  by_biquad s f false g d = record { value = refl; filters = d }

  simple_same : (f : Filters) → Default f → Same x (pass_simple channel f x)
  simple_same f d = by_simple f.has_simple f.simple f.has_biquad f.biquad d

  biquad_same : (f : Filters) → Default f → Same x (pass_biquad channel f x)
  biquad_same f d = by_biquad f.has_simple f.simple f.has_biquad f.biquad d

pass_same : (channel : ℕ) (f : Filters) (x : ℤ) → SFits w16 x → Default f → Same x (pass channel f x)
unfolding pass
pass_same channel f x h d =
    let s = simple_same channel x h f d in
    subst (λ (v : ℤ). Same x (pass_biquad channel (pass_simple channel f x).filters v)) (sym s.value)
    (biquad_same channel x h (pass_simple channel f x).filters s.filters)

pub defaults_are_identities : DefaultsAreIdentities
defaults_are_identities channel f [] d fit = refl
defaults_are_identities channel f (x ∷ samples) d fit =
    let s = pass_same channel f x (first_fits x samples fit) d in
    λ i. s.value i ∷ defaults_are_identities (1 - channel) (pass channel f x).filters samples s.filters (rest_fit x samples fit) i
