-- What the filters keep to: what comes out of them has 16 bits, and their state stays in range. Assumes nothing.
use mathlib.Core.Bool.{Bool, true, false, ◌&&◌, cond}
use mathlib.Core.List.{List, [], ◌∷◌}
use Prim.Native.Nat.{ℕ, zero, suc, ◌+◌, ◌-◌, zero-le, suc-le-suc}
use native.Mathlib.Nat.{le_of_suc-le-suc, not-suc-le-zero}
use lib.Dec.{T}
use lib.IntN.{ℤ, pos}
use lib.ListN.{get_or, set}
use lib.Signed.{shr_z}
use mir.Syntax.{w16}
use mir.Val.{SFits}
use Rattle.lists.proofs.Bools.{and_left, and_right}
use Rattle.numbers.specs.Wrap.{wrap32}
use Rattle.numbers.proofs.Ranges.{clamp_fits}
use Rattle.filters.specs.declared.state.SimpleFilter.{SimpleFilter}
use Rattle.filters.specs.declared.state.BiquadFilter.{BiquadFilter}
use Rattle.filters.specs.declared.state.Filters.{Filters}
use Rattle.filters.specs.Passed.{Passed}
use Rattle.filters.specs.Range.{in_range, all_in_range, simple_in_range, biquad_in_range, filters_in_range}
use Rattle.filters.specs.Filter.{simple_sum, simple_value, simple_after, biquad_sum, biquad_value, moved, biquad_after}
use Rattle.filters.specs.Inner.{simple_next, biquad_next}
use Rattle.filters.specs.Process.{pass_simple, pass_biquad, pass, passed_from, filters_after}
use Rattle.filters.specs.Identity.{AllFit}
use Rattle.filters.proofs.Ranges.{both, sample_range, all_at, all_set}

-- ---- one filter

pub simple_fits : (channel : ℕ) (f : SimpleFilter) (x : ℤ) → SFits w16 (simple_value channel f x)
unfolding simple_value
simple_fits channel f x = clamp_fits (shr_z (wrap32 (simple_sum channel f x)) 32768)

pub biquad_fits : (channel : ℕ) (f : BiquadFilter) (x : ℤ) → SFits w16 (biquad_value channel f x)
unfolding biquad_value
biquad_fits channel f x = clamp_fits (shr_z (wrap32 (biquad_sum channel f x)) 16384)

-- a filter's numbers, by what it has them for
pub record Simple (f : SimpleFilter) : Type 0 where
  pub b0 : T (in_range f.b0)
  pub a1 : T (in_range f.a1)
  pub y1 : T (all_in_range f.y1)

pub record Biquad (f : BiquadFilter) : Type 0 where
  pub b : T (all_in_range f.b)
  pub a : T (all_in_range f.a)
  pub x : T (all_in_range f.x)
  pub y : T (all_in_range f.y)

pub simple_parts : (f : SimpleFilter) → T (simple_in_range f) → Simple f
simple_parts f t =
    let r = and_right (in_range f.b0) (in_range f.a1 && all_in_range f.y1) t in
    record {
      b0 = and_left (in_range f.b0) (in_range f.a1 && all_in_range f.y1) t;
      a1 = and_left (in_range f.a1) (all_in_range f.y1) r;
      y1 = and_right (in_range f.a1) (all_in_range f.y1) r;
    }

pub biquad_parts : (f : BiquadFilter) → T (biquad_in_range f) → Biquad f
biquad_parts f t =
    let r = and_right (all_in_range f.b) (all_in_range f.a && (all_in_range f.x && all_in_range f.y)) t in
    let s = and_right (all_in_range f.a) (all_in_range f.x && all_in_range f.y) r in
    record {
      b = and_left (all_in_range f.b) (all_in_range f.a && (all_in_range f.x && all_in_range f.y)) t;
      a = and_left (all_in_range f.a) (all_in_range f.x && all_in_range f.y) r;
      x = and_left (all_in_range f.x) (all_in_range f.y) s;
      y = and_right (all_in_range f.x) (all_in_range f.y) s;
    }

simple_whole : (f : SimpleFilter) → Simple f → T (simple_in_range f)
simple_whole f p =
    both (in_range f.b0) (in_range f.a1 && all_in_range f.y1) p.b0 (both (in_range f.a1) (all_in_range f.y1) p.a1 p.y1)

biquad_whole : (f : BiquadFilter) → Biquad f → T (biquad_in_range f)
biquad_whole f p =
    both (all_in_range f.b) (all_in_range f.a && (all_in_range f.x && all_in_range f.y)) p.b
    (both (all_in_range f.a) (all_in_range f.x && all_in_range f.y) p.a (both (all_in_range f.x) (all_in_range f.y) p.x p.y))

pub simple_kept :
    (channel : ℕ) (f : SimpleFilter) (value : ℤ) → T (simple_in_range f) → SFits w16 value
    → T (simple_in_range (simple_after channel f value))
simple_kept channel f value t h =
    let p = simple_parts f t in
    simple_whole (simple_after channel f value)
    (record { b0 = p.b0; a1 = p.a1; y1 = all_set f.y1 channel value p.y1 (sample_range value h) })

moved_kept : (channel : ℕ) (zs : List ℤ) (value : ℤ) → T (all_in_range zs) → SFits w16 value → T (all_in_range (moved channel zs value))
moved_kept channel zs value t h =
    let older = set zs (channel + 2) (get_or zs channel (pos 0)) in
    all_set older channel value (all_set zs (channel + 2) (get_or zs channel (pos 0)) t (all_at zs channel t)) (sample_range value h)

pub biquad_kept : (channel : ℕ) (f : BiquadFilter) (x0 value : ℤ) → T (biquad_in_range f) → SFits w16 x0 → SFits w16 value
    → T (biquad_in_range (biquad_after channel f x0 value))
biquad_kept channel f x0 value t h k =
    let p = biquad_parts f t in
    biquad_whole (biquad_after channel f x0 value)
    (record { b = p.b; a = p.a; x = moved_kept channel f.x x0 p.x h; y = moved_kept channel f.y value p.y k })

-- a sample of 16 bits keeps a filter in range
pub simple_stays :
    (channel : ℕ) (f : SimpleFilter) (x : ℤ) → SFits w16 x → T (simple_in_range f) → T (simple_in_range (simple_next channel f x))
simple_stays channel f x h t = simple_kept channel f (simple_value channel f x) t (simple_fits channel f x)

pub biquad_stays :
    (channel : ℕ) (f : BiquadFilter) (x : ℤ) → SFits w16 x → T (biquad_in_range f) → T (biquad_in_range (biquad_next channel f x))
biquad_stays channel f x h t = biquad_kept channel f x (biquad_value channel f x) t h (biquad_fits channel f x)

-- ---- the filters, by their marks

-- the filters of two marks and two filters
abbrev pub the : Bool → SimpleFilter → Bool → BiquadFilter → Filters
the s f b g = record { has_simple = s; simple = f; has_biquad = b; biquad = g }

-- what a pass leaves is in range: the value has 16 bits, the filters are within theirs
pub record Kept (p : Passed) : Type 0 where
  pub value : SFits w16 p.value
  pub filters : T (filters_in_range p.filters)

module _ (channel : ℕ) (x : ℤ) (h : SFits w16 x) where
  by_simple :
      (s : Bool) (f : SimpleFilter) (b : Bool) (g : BiquadFilter) → T (filters_in_range (the s f b g))
      → Kept (pass_simple channel (the s f b g) x)
  unfolding pass_simple
  by_simple true f b g t = record {
    value = simple_fits channel f x;
    filters =
        both (simple_in_range (simple_after channel f (simple_value channel f x))) (cond b (biquad_in_range g) true)
        (simple_kept channel f (simple_value channel f x) (and_left (simple_in_range f) (cond b (biquad_in_range g) true) t)
        (simple_fits channel f x))
        (and_right (simple_in_range f) (cond b (biquad_in_range g) true) t);
  }
  by_simple false f b g t = record { value = h; filters = t }

  by_biquad :
      (s : Bool) (f : SimpleFilter) (b : Bool) (g : BiquadFilter) → T (filters_in_range (the s f b g))
      → Kept (pass_biquad channel (the s f b g) x)
  unfolding pass_biquad
  by_biquad s f true g t = record {
    value = biquad_fits channel g x;
    filters =
        both (cond s (simple_in_range f) true) (biquad_in_range (biquad_after channel g x (biquad_value channel g x)))
        (and_left (cond s (simple_in_range f) true) (biquad_in_range g) t)
        (biquad_kept channel g x (biquad_value channel g x) (and_right (cond s (simple_in_range f) true) (biquad_in_range g) t) h
        (biquad_fits channel g x));
  }
  by_biquad s f false g t = record { value = h; filters = t }

  pub simple_keeps : (f : Filters) → T (filters_in_range f) → Kept (pass_simple channel f x)
  simple_keeps f t = by_simple f.has_simple f.simple f.has_biquad f.biquad t

  pub biquad_keeps : (f : Filters) → T (filters_in_range f) → Kept (pass_biquad channel f x)
  biquad_keeps f t = by_biquad f.has_simple f.simple f.has_biquad f.biquad t

pub pass_keeps : (channel : ℕ) (f : Filters) (x : ℤ) → SFits w16 x → T (filters_in_range f) → Kept (pass channel f x)
unfolding pass
pass_keeps channel f x h t =
    let s = simple_keeps channel x h f t in
    biquad_keeps channel (pass_simple channel f x).value s.value (pass_simple channel f x).filters s.filters

-- ---- samples in turn

-- 16 bits hold each sample
pub first_fits : (x : ℤ) (samples : List ℤ) → AllFit (x ∷ samples) → SFits w16 x
first_fits x samples fit = fit 0 (suc-le-suc zero-le)

pub rest_fit : (x : ℤ) (samples : List ℤ) → AllFit (x ∷ samples) → AllFit samples
rest_fit x samples fit i h = fit (suc i) (suc-le-suc h)

pub passed_fit :
    (channel : ℕ) (f : Filters) (samples : List ℤ) → T (filters_in_range f) → AllFit samples → AllFit (passed_from channel f samples)
passed_fit channel f [] t fit i h = absurd (not-suc-le-zero h)
passed_fit channel f (x ∷ samples) t fit zero h = (pass_keeps channel f x (first_fits x samples fit) t).value
passed_fit channel f (x ∷ samples) t fit (suc i) h =
    passed_fit (1 - channel) (pass channel f x).filters samples (pass_keeps channel f x (first_fits x samples fit) t).filters
    (rest_fit x samples fit) i (le_of_suc-le-suc h)

pub after_in_range :
    (channel : ℕ) (f : Filters) (samples : List ℤ) → T (filters_in_range f) → AllFit samples
    → T (filters_in_range (filters_after channel f samples))
after_in_range channel f [] t fit = t
after_in_range channel f (x ∷ samples) t fit =
    after_in_range (1 - channel) (pass channel f x).filters samples (pass_keeps channel f x (first_fits x samples fit) t).filters
    (rest_fit x samples fit)
