-- A record that is not malformed is well-formed, and the other way round; it is malformed exactly if one of document 01's sentences holds.
-- The default voice is well-formed, and tidying keeps a voice so. By the tests one after the other. Assumes nothing.
use Prim.Native.Nat.{ℕ, ◌<◌, ◌≤◌}
use mathlib.Core.Bool.{Bool, true, false, not, ◌&&◌, ◌||◌, cond}
use mathlib.Core.List.{List, [], ◌∷◌, ◌++◌}
use mathlib.Core.Logic.{⊎_elim}
use mathlib.Core.Path.{◌≡◌, refl, sym, ap, ◌∙◌}
use lib.Ieee.{lt, is_nan}
use lib.Ieee.Scale.{finite}
use lib.IntN.{ℤ, nat_abs}
use lib.Dec.{ltb}
use lib.ListN.{length, get_or, length-take, get_or-eq_default}
use lib.Seq.{get_or-take}
use native.Mathlib.Omega.{arith}
use Rattle.std.proofs.lemmas.Bool.{false≢true}
use borrow.Author.Tests.{le-ltb, lt-ltb, ltb-true, ltb-false, lt-leb, leb-false, not-true, not-false}
use Rattle.lists.proofs.Bools.{and_yes, and_no, and_both, and_one, not_yes, not_no, or_yes, or_no, or_one, or_neither}
use Rattle.lists.specs.Some.{some, every}
use Rattle.lists.proofs.Some.{none_each, each_none, some_one, one_some, some_place, every_append, every_some}
use Rattle.lists.proofs.Walk.{below_or}
use Rattle.numbers.specs.Literals.{+0}
use Rattle.numbers.specs.Tests.{is_rate, is_fraction}
use Rattle.filters.specs.Defaults.{default_simple, default_biquad}
use Rattle.filters.specs.Range.{in_range, all_in_range, simple_in_range, biquad_in_range, filters_in_range}
use Rattle.filters.specs.declared.state.Filters.{Filters}
use Rattle.voice.specs.declared.record.Entry.{Entry}
use Rattle.voice.specs.declared.record.Format.{Format}
use Rattle.voice.specs.declared.record.Format.TheVariants.{Pcm8, Pcm16, Adpcm}
use Rattle.voice.specs.declared.record.Voice.{Voice}
use Rattle.voice.specs.Blank.{limit, blank_history, blank_entry, default_voice}
use Rattle.voice.specs.Set.{set_entry_adpcm}
use Rattle.voice.specs.Long.{is_adpcm, too_long, any_too_long}
use Rattle.voice.specs.Malformed.{queued_in, malformed, WellFormed, QueuedLonger, filter_numbers, Outside, Malformed, queue_over_64}
use Rattle.voice.specs.Malformed.{remaining_over_length, decoded_over_L, entry_longer_than_L, rate_not_above_0, rate_not_finite}
use Rattle.voice.specs.Malformed.{fraction_below_0, fraction_not_a_number, filter_outside, MalformedExactly}
use Rattle.voice.specs.Tidy.{tidy_entry, tidy_filters, tidied}
use Rattle.voice.proofs.Tidied.{queued_at}

-- ---- tests and facts

same_format : (e : Entry) → (tidy_entry e).format ≡ e.format
unfolding tidy_entry
same_format e = by e.has_adpcm
  where
    by : (on : Bool) → (cond on e (set_entry_adpcm blank_history e)).format ≡ e.format
    by true = refl
    by false = refl

same_length : (e : Entry) → (tidy_entry e).length ≡ e.length
unfolding tidy_entry
same_length e = by e.has_adpcm
  where
    by : (on : Bool) → (cond on e (set_entry_adpcm blank_history e)).length ≡ e.length
    by true = refl
    by false = refl

-- an entry and the same, tidied
same_long : (L : ℕ) (e : Entry) → too_long L (tidy_entry e) ≡ too_long L e
unfolding too_long
same_long L e = λ j. is_adpcm (same_format e j) && ltb L (same_length e j)

blank_fits : (L : ℕ) → too_long L blank_entry ≡ false
unfolding too_long blank_entry
blank_fits L = refl

-- what stands under a mark that is off is not asked
tidy_in_range : (f : Filters) → filters_in_range (tidy_filters f) ≡ filters_in_range f
unfolding tidy_filters
tidy_in_range f = λ j. simple f.has_simple j && biquad f.has_biquad j
  where
    simple : (on : Bool) → cond on (simple_in_range (cond on f.simple default_simple)) true ≡ cond on (simple_in_range f.simple) true
    simple true = refl
    simple false = refl

    biquad : (on : Bool) → cond on (biquad_in_range (cond on f.biquad default_biquad)) true ≡ cond on (biquad_in_range f.biquad) true
    biquad true = refl
    biquad false = refl

module _ (L : ℕ) where
  -- the queued entries by their places
  pub entries_at :
      (v : Voice) → any_too_long L (queued_in v) ≡ false → (k : ℕ) → k < v.queued → too_long L (get_or v.queue k blank_entry) ≡ false
  entries_at v e k h = ⊎_elim here past (below_or k (length v.queue))
    where
      here : k < length v.queue → too_long L (get_or v.queue k blank_entry) ≡ false
      here l =
          ap (too_long L) (sym (get_or-take v.queued v.queue k blank_entry h))
          ∙ none_each (too_long L) (queued_in v) blank_entry e k (rw length-take (omega arith))

      past : length v.queue ≤ k → too_long L (get_or v.queue k blank_entry) ≡ false
      past g = ap (too_long L) (get_or-eq_default v.queue blank_entry {n = k} g) ∙ blank_fits L

  pub at_entries :
      (v : Voice) → ((k : ℕ) → k < v.queued → too_long L (get_or v.queue k blank_entry) ≡ false) → any_too_long L (queued_in v) ≡ false
  at_entries v f =
      each_none (too_long L) (queued_in v) blank_entry (λ k h.
      let l : k < v.queued = omega (arith, rw length-take at h) in ap (too_long L) (get_or-take v.queued v.queue k blank_entry l)
      ∙ f k l)

  -- ---- both ways

  module _ (v : Voice) where
    pub not_malformed_formed : malformed L v ≡ false → WellFormed L v
    unfolding malformed
    not_malformed_formed e =
        let a = or_neither _ _ e in
        let b = or_neither _ _ a.1 in
        let c = or_neither _ _ b.1 in
        let d = or_neither _ _ c.1 in
        let r = or_neither _ _ d.1 in
        let f = or_neither _ _ r.1 in
        record {
          queued = ltb-false limit v.queued a.0;
          remaining = ltb-false v.length v.remaining b.0;
          decoded = ltb-false L v.decoded c.0;
          entries = d.0;
          rate = not-false (is_rate v.rate) r.0;
          fraction = not-false (is_fraction v.fraction) f.0;
          filters = not-false (filters_in_range v.filters) f.1;
        }

    pub formed_not_malformed : WellFormed L v → malformed L v ≡ false
    unfolding malformed
    formed_not_malformed w =
        or_no _ (le-ltb limit v.queued w.queued)
        ∙ or_no _ (le-ltb v.length v.remaining w.remaining)
        ∙ or_no _ (le-ltb L v.decoded w.decoded)
        ∙ or_no _ w.entries
        ∙ or_no _ (not_yes w.rate)
        ∙ or_no _ (not_yes w.fraction)
        ∙ not_yes w.filters

    -- ---- what is well-formed

    pub tidied_formed : WellFormed L v → WellFormed L (tidied v)
    unfolding tidied tidy_filters
    tidied_formed w = record {
      queued = w.queued;
      remaining = w.remaining;
      decoded = w.decoded;
      entries =
          at_entries (tidied v) (λ k h.
          ap (too_long L) (queued_at v.queued v.queue k h w.queued)
          ∙ same_long L (get_or v.queue k blank_entry)
          ∙ entries_at v w.entries k h);
      rate = w.rate;
      fraction = w.fraction;
      filters = tidy_in_range v.filters ∙ w.filters;
    }

  pub default_formed : WellFormed L default_voice
  unfolding default_voice is_rate is_fraction lt is_nan
  default_formed = record {
    queued = omega arith;
    remaining = omega arith;
    decoded = omega arith;
    entries = refl;
    rate = refl;
    fraction = refl;
    filters = refl;
  }

-- ---- malformed exactly if a sentence holds

-- the numbers of the filters that are on, taken one by one
numbers_in_range : (f : Filters) → filters_in_range f ≡ every in_range (filter_numbers f)
numbers_in_range f =
    (λ j. simple f.has_simple j && biquad f.has_biquad j)
    ∙ sym (every_append in_range (cond f.has_simple _ []) (cond f.has_biquad _ []))
  where
    every_is : (zs : List ℤ) → all_in_range zs ≡ every in_range zs
    every_is [] = refl
    every_is (z ∷ zs) = ap (λ (b : Bool). in_range z && b) (every_is zs)

    simple : (on : Bool)
        → cond on (simple_in_range f.simple) true ≡ every in_range (cond on (f.simple.b0 ∷ f.simple.a1 ∷ f.simple.y1) [])
    simple true = every_is (f.simple.b0 ∷ f.simple.a1 ∷ f.simple.y1)
    simple false = refl

    split : (xs : List ℤ) (ys : List ℤ) → (all_in_range xs && every in_range ys) ≡ every in_range (xs ++ ys)
    split xs ys = ap (λ (b : Bool). b && every in_range ys) (every_is xs) ∙ sym (every_append in_range xs ys)

    biquad : (on : Bool)
        → cond on (biquad_in_range f.biquad) true
        ≡ every in_range (cond on (f.biquad.b ++ (f.biquad.a ++ (f.biquad.x ++ f.biquad.y))) [])
    biquad true =
        ap (λ (t : Bool). all_in_range f.biquad.b && (all_in_range f.biquad.a && (all_in_range f.biquad.x && t)))
        (every_is f.biquad.y)
        ∙ ap (λ (t : Bool). all_in_range f.biquad.b && (all_in_range f.biquad.a && t)) (split f.biquad.x f.biquad.y)
        ∙ ap (λ (t : Bool). all_in_range f.biquad.b && t) (split f.biquad.a (f.biquad.x ++ f.biquad.y))
        ∙ split f.biquad.b (f.biquad.a ++ (f.biquad.x ++ f.biquad.y))
    biquad false = refl

module _ (f : Filters) where
  is_outside : filters_in_range f ≡ false → Outside f
  unfolding in_range
  is_outside e =
      let all : not (some (λ z. not (in_range z)) (filter_numbers f)) ≡ false =
      sym (every_some in_range (filter_numbers f)) ∙ sym (numbers_in_range f) ∙ e in
      let one = some_one (λ z. not (in_range z)) (filter_numbers f) (not-false (some (λ z. not (in_range z)) (filter_numbers f)) all) in
      record { number = one.0; among = one.1; outside = leb-false (nat_abs one.0) 32768 (not-true (in_range one.0) one.2) }

  outside_is : Outside f → filters_in_range f ≡ false
  unfolding in_range
  outside_is o =
      numbers_in_range f
      ∙ every_some in_range (filter_numbers f)
      ∙ not_yes (one_some (λ z. not (in_range z)) o.number (filter_numbers f) o.among
      (not_no (lt-leb (nat_abs o.number) 32768 o.outside)))

-- an entry that is too long, in words
pub long_is : (L : ℕ) (e : Entry) → too_long L e ≡ true → (e.format ≡ Adpcm) × (L < e.length)
unfolding too_long
long_is L e t =
    let both = and_both (is_adpcm e.format) (ltb L e.length) t in (adpcm_is e.format both.0, ltb-true L e.length both.1)
  where
    adpcm_is : (f : Format) → is_adpcm f ≡ true → f ≡ Adpcm
    adpcm_is Pcm8 t = cc
    adpcm_is Pcm16 t = cc
    adpcm_is Adpcm t = refl

pub is_long : (L : ℕ) (e : Entry) → e.format ≡ Adpcm → L < e.length → too_long L e ≡ true
unfolding too_long
is_long L e a h = and_yes (ltb L e.length) (ap is_adpcm a) ∙ lt-ltb L e.length h

module _ (L : ℕ) (v : Voice) where
  entry_told : any_too_long L (queued_in v) ≡ true → QueuedLonger L v
  entry_told e =
      let one = some_place (too_long L) (queued_in v) blank_entry e in
      let h : one.0 < v.queued = omega (arith, rw length-take at one.1) in
      let long = long_is L (get_or v.queue one.0 blank_entry)
      (ap (too_long L) (sym (get_or-take v.queued v.queue one.0 blank_entry h)) ∙ one.2) in
      record { place = one.0; queued = h; adpcm = long.0; longer = long.1 }

  entry_asked : QueuedLonger L v → any_too_long L (queued_in v) ≡ true
  entry_asked q = by (any_too_long L (queued_in v)) refl
    where
      long : too_long L (get_or v.queue q.place blank_entry) ≡ true
      long = is_long L (get_or v.queue q.place blank_entry) q.adpcm q.longer

      by : (b : Bool) → any_too_long L (queued_in v) ≡ b → b ≡ true
      by true p = refl
      by false p = sym (entries_at L v p q.place q.queued) ∙ long

  rate_told : is_rate v.rate ≡ false → Malformed L v
  unfolding is_rate
  rate_told e = ⊎_elim rate_not_above_0 rate_not_finite (and_one (lt +0 v.rate) (finite v.rate) e)

  above_asked : lt +0 v.rate ≡ false → is_rate v.rate ≡ false
  unfolding is_rate
  above_asked e = and_no (finite v.rate) e

  finite_asked : finite v.rate ≡ false → is_rate v.rate ≡ false
  unfolding is_rate
  finite_asked e = by (lt +0 v.rate)
    where
      by : (b : Bool) → (b && finite v.rate) ≡ false
      by true = e
      by false = refl

  fraction_told : is_fraction v.fraction ≡ false → Malformed L v
  unfolding is_fraction
  fraction_told e =
      ⊎_elim fraction_below_0 fraction_not_a_number
      (or_one (lt v.fraction +0) (is_nan v.fraction) (not-false (lt v.fraction +0 || is_nan v.fraction) e))

  below_asked : lt v.fraction +0 ≡ true → is_fraction v.fraction ≡ false
  unfolding is_fraction
  below_asked e = not_yes (or_yes (is_nan v.fraction) e)

  number_asked : is_nan v.fraction ≡ true → is_fraction v.fraction ≡ false
  unfolding is_fraction
  number_asked e = by (lt v.fraction +0)
    where
      by : (b : Bool) → not (b || is_nan v.fraction) ≡ false
      by true = refl
      by false = not_yes e

  told : malformed L v ≡ true → Malformed L v
  unfolding malformed
  told e =
      ⊎_elim (λ t. queue_over_64 (ltb-true limit v.queued t)) (λ e.
      ⊎_elim (λ t. remaining_over_length (ltb-true v.length v.remaining t)) (λ e.
      ⊎_elim (λ t. decoded_over_L (ltb-true L v.decoded t)) (λ e.
      ⊎_elim (λ t. entry_longer_than_L (entry_told t)) (λ e.
      ⊎_elim (λ t. rate_told (not-true (is_rate v.rate) t)) (λ e.
      ⊎_elim (λ t. fraction_told (not-true (is_fraction v.fraction) t))
      (λ t. filter_outside (is_outside v.filters (not-true (filters_in_range v.filters) t)))
      (or_one _ _ e)) (or_one _ _ e)) (or_one _ _ e)) (or_one _ _ e)) (or_one _ _ e)) (or_one _ _ e)

  -- a record of which a sentence holds is not well-formed
  asked : Malformed L v → WellFormed L v → ⊥
  asked (queue_over_64 h) w = omega arith
  asked (remaining_over_length h) w = omega arith
  asked (decoded_over_L h) w = omega arith
  asked (entry_longer_than_L q) w = false≢true (sym w.entries ∙ entry_asked q)
  asked (rate_not_above_0 e) w = false≢true (sym (above_asked e) ∙ w.rate)
  asked (rate_not_finite e) w = false≢true (sym (finite_asked e) ∙ w.rate)
  asked (fraction_below_0 e) w = false≢true (sym (below_asked e) ∙ w.fraction)
  asked (fraction_not_a_number e) w = false≢true (sym (number_asked e) ∙ w.fraction)
  asked (filter_outside o) w = false≢true (sym (outside_is v.filters o) ∙ w.filters)

pub malformed_exactly : MalformedExactly
malformed_exactly L v = (told L v, λ m. by m (malformed L v) refl)
  where
    by : Malformed L v → (b : Bool) → malformed L v ≡ b → b ≡ true
    by m true p = refl
    by m false p = absurd (asked L v m (not_malformed_formed L v p))
