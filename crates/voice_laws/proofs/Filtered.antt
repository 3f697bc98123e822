-- A frame that is filtered leaves a record well-formed, with its arrays and with numbers of their types: each sample that passes keeps the
-- filters so, and comes out with 16 bits. By induction on the samples. Assumes nothing.
use mathlib.Core.Path.{◌≡◌, refl, sym, ap, ◌∙◌, subst}
use mathlib.Core.Bool.{true}
use mathlib.Core.List.{List, [], ◌∷◌}
use Prim.Native.Nat.{ℕ, suc, ◌+◌, ◌-◌, ◌*◌}
use lib.Dec.{T}
use lib.IntN.{ℤ, pos}
use lib.ListN.{length, take, drop, get_or, set, length-set, length-append, take-append-drop}
use Rattle.lists.specs.Some.{every}
use Rattle.lists.proofs.Bools.{and_yes, and_both, cond_either, is_true}
use Rattle.lists.proofs.Some.{every_at, every_set, every_append, every_take, every_drop}
use Rattle.filters.specs.Filter.{simple_value, simple_after, biquad_value, moved, biquad_after}
use Rattle.filters.specs.Identity.{AllFit}
use Rattle.filters.specs.Process.{pass_simple, pass_biquad, pass, passed_from, filters_after}
use Rattle.filters.specs.Range.{filters_in_range}
use Rattle.filters.specs.Passed.{Passed}
use Rattle.filters.specs.declared.state.BiquadFilter.{BiquadFilter}
use Rattle.filters.specs.declared.state.Filters.{Filters}
use Rattle.filters.specs.declared.state.SimpleFilter.{SimpleFilter}
use Rattle.filters.proofs.Passes.{simple_fits, biquad_fits, after_in_range}
use Rattle.voice.specs.Malformed.{WellFormed}
use Rattle.voice.specs.Range.{signed, simple_in32, biquad_in32, InRange, Sized}
use Rattle.voice.specs.declared.record.Voice.{Voice}
use Rattle.voice.proofs.Range.{zero_sample}
use Rattle.voice_frame.specs.VoiceFrame.{filtered}
use Rattle.voice_laws.proofs.Numbers.{sample_fits, fits_sample, zero_32, sample_32}

-- ---- one filter

abbrev All32 : List ℤ → Type 0
All32 zs = every (signed 32) zs ≡ true

-- filters with their arrays and with numbers of 32 bits
pub record Fit (f : Filters) : Type 0 where
  pub simple : simple_in32 f.simple ≡ true
  pub biquad : biquad_in32 f.biquad ≡ true
  pub y1 : length f.simple.y1 ≡ 2
  pub b : length f.biquad.b ≡ 3
  pub a : length f.biquad.a ≡ 2
  pub x : length f.biquad.x ≡ 4
  pub y : length f.biquad.y ≡ 4

-- what a pass leaves
record Out (p : Passed) : Type 0 where
  value : signed 16 p.value ≡ true
  filters : Fit p.filters

simple_32 : (channel : ℕ) (f : SimpleFilter) (value : ℤ) → signed 16 value ≡ true → simple_in32 f ≡ true
    → simple_in32 (simple_after channel f value) ≡ true
unfolding simple_in32
simple_32 channel f value t p =
    let b0 = and_both (signed 32 f.b0) _ p in
    let a1 = and_both (signed 32 f.a1) _ b0.1 in
    let y1 = and_both (every (signed 32) f.y1) true a1.1 in
    and_yes _ b0.0 ∙ and_yes _ a1.0 ∙ and_yes true (every_set (signed 32) f.y1 channel value y1.0 (sample_32 value t))

moved_32 : (channel : ℕ) (zs : List ℤ) (value : ℤ) → signed 16 value ≡ true → All32 zs → All32 (moved channel zs value)
moved_32 channel zs value t p =
    every_set (signed 32) (set zs (channel + 2) (get_or zs channel (pos 0))) channel value
    (every_set (signed 32) zs (channel + 2) (get_or zs channel (pos 0)) p (every_at (signed 32) zs channel (pos 0) p zero_32))
    (sample_32 value t)

biquad_32 : (channel : ℕ) (f : BiquadFilter) (x0 value : ℤ) → signed 16 x0 ≡ true → signed 16 value ≡ true → biquad_in32 f ≡ true
    → biquad_in32 (biquad_after channel f x0 value) ≡ true
unfolding biquad_in32
biquad_32 channel f x0 value s t p =
    let b = and_both (every (signed 32) f.b) _ p in
    let a = and_both (every (signed 32) f.a) _ b.1 in
    let x = and_both (every (signed 32) f.x) _ a.1 in
    let y = and_both (every (signed 32) f.y) true x.1 in
    and_yes _ b.0 ∙ and_yes _ a.0 ∙ and_yes _ (moved_32 channel f.x x0 s x.0)
    ∙ and_yes true (moved_32 channel f.y value t y.0)

moved_long : (channel : ℕ) (zs : List ℤ) (value : ℤ) → length (moved channel zs value) ≡ length zs
moved_long channel zs value = simp length-set refl

-- ---- both, by their marks

module _ (channel : ℕ) (f : Filters) (x : ℤ) (t : signed 16 x ≡ true) (p : Fit f) where
  simple_out : Out (pass_simple channel f x)
  unfolding pass_simple
  simple_out =
      let value = simple_value channel f.simple x in
      let s : signed 16 value ≡ true = fits_sample value (simple_fits channel f.simple x) in
      cond_either Out f.has_simple _ _
      (record {
        value = s;
        filters =
            record {
              simple = simple_32 channel f.simple value s p.simple;
              biquad = p.biquad;
              y1 = simp length-set p.y1;
              b = p.b;
              a = p.a;
              x = p.x;
              y = p.y;
            };
      })
      (record { value = t; filters = p })

  biquad_out : Out (pass_biquad channel f x)
  unfolding pass_biquad
  biquad_out =
      let value = biquad_value channel f.biquad x in
      let s : signed 16 value ≡ true = fits_sample value (biquad_fits channel f.biquad x) in
      cond_either Out f.has_biquad _ _
      (record {
        value = s;
        filters =
            record {
              simple = p.simple;
              biquad = biquad_32 channel f.biquad x value t s p.biquad;
              y1 = p.y1;
              b = p.b;
              a = p.a;
              x = moved_long channel f.biquad.x x ∙ p.x;
              y = moved_long channel f.biquad.y value ∙ p.y;
            };
      })
      (record { value = t; filters = p })

pass_out : (channel : ℕ) (f : Filters) (x : ℤ) → signed 16 x ≡ true → Fit f → Out (pass channel f x)
unfolding pass
pass_out channel f x t p =
    let s = simple_out channel f x t p in
    biquad_out channel (pass_simple channel f x).filters (pass_simple channel f x).value s.value s.filters

-- ---- samples in turn

abbrev All16 : List ℤ → Type 0
All16 zs = every (signed 16) zs ≡ true

passed_16 : (channel : ℕ) (f : Filters) (samples : List ℤ) → All16 samples → Fit f → All16 (passed_from channel f samples)
passed_16 channel f [] t p = refl
passed_16 channel f (x ∷ samples) t p =
    let both = and_both (signed 16 x) (every (signed 16) samples) t in
    let o = pass_out channel f x both.0 p in
    and_yes _ o.value ∙ passed_16 (1 - channel) (pass channel f x).filters samples both.1 o.filters

after_fit : (channel : ℕ) (f : Filters) (samples : List ℤ) → All16 samples → Fit f → Fit (filters_after channel f samples)
after_fit channel f [] t p = p
after_fit channel f (x ∷ samples) t p =
    let both = and_both (signed 16 x) (every (signed 16) samples) t in
    after_fit (1 - channel) (pass channel f x).filters samples both.1 (pass_out channel f x both.0 p).filters

passed_long : (channel : ℕ) (f : Filters) (samples : List ℤ) → length (passed_from channel f samples) ≡ length samples
passed_long channel f [] = refl
passed_long channel f (x ∷ samples) = ap suc (passed_long (1 - channel) (pass channel f x).filters samples)

all_fit : (samples : List ℤ) → All16 samples → AllFit samples
all_fit samples t i h = sample_fits (get_or samples i (pos 0)) (every_at (signed 16) samples i (pos 0) t zero_sample)

-- ---- a record

module _ (produced : ℕ) (v : Voice) (i : InRange v) where
  abbrev samples : List ℤ
  samples = take (produced * 2) v.frame

  abbrev past : List ℤ
  past = drop (produced * 2) v.frame

  samples_16 : All16 samples
  samples_16 = every_take (signed 16) (produced * 2) v.frame i.frame

  fit : Sized v → Fit v.filters
  fit s = record { simple = i.simple; biquad = i.biquad; y1 = s.y1; b = s.b; a = s.a; x = s.x; y = s.y }

  pub filtered_formed : (L : ℕ) → WellFormed L v → WellFormed L (filtered produced v)
  unfolding filtered
  filtered_formed L w = record {
    queued = w.queued;
    remaining = w.remaining;
    decoded = w.decoded;
    entries = w.entries;
    rate = w.rate;
    fraction = w.fraction;
    filters =
        is_true (filters_in_range (filters_after 0 v.filters samples))
        (after_in_range 0 v.filters samples (subst T (sym w.filters) tt) (all_fit samples samples_16));
  }

  pub filtered_sized : Sized v → Sized (filtered produced v)
  unfolding filtered
  filtered_sized s =
      let a = after_fit 0 v.filters samples samples_16 (fit s) in
      record {
        gain = s.gain;
        marks = s.marks;
        ramp = s.ramp;
        coefficients = s.coefficients;
        queue = s.queue;
        frame =
            length-append (passed_from 0 v.filters samples) past
            ∙ ap (λ (n : ℕ). n + length past) (passed_long 0 v.filters samples)
            ∙ sym (length-append samples past)
            ∙ ap (λ (l : List ℤ). length l) (take-append-drop (produced * 2) v.frame)
            ∙ s.frame;
        y1 = a.y1;
        b = a.b;
        a = a.a;
        x = a.x;
        y = a.y;
      }

  pub filtered_range : Sized v → InRange (filtered produced v)
  unfolding filtered
  filtered_range s =
      let a = after_fit 0 v.filters samples samples_16 (fit s) in
      record {
        sync_count = i.sync_count;
        rate = i.rate;
        simple = a.simple;
        biquad = a.biquad;
        gain = i.gain;
        ramp = i.ramp;
        coefficients = i.coefficients;
        history = i.history;
        queue = i.queue;
        queued = i.queued;
        playing = i.playing;
        decoded = i.decoded;
        remaining = i.remaining;
        length = i.length;
        fraction = i.fraction;
        current_buffer_id = i.current_buffer_id;
        last_buffer_id = i.last_buffer_id;
        position = i.position;
        frame =
            every_append (signed 16) (passed_from 0 v.filters samples) past
            ∙ and_yes _ (passed_16 0 v.filters samples samples_16 (fit s))
            ∙ every_drop (signed 16) (produced * 2) v.frame i.frame;
      }
