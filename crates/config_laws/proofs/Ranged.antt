-- Where bytes are read, a configuration leaves values of their types in a record's fields: each step stores one that bytes can give, and so
-- does queueing an entry. Assumes nothing.
use mathlib.Core.Path.{◌≡◌, refl, ◌∙◌}
use mathlib.Core.Bool.{Bool, true, not, ◌&&◌, ◌||◌, cond}
use mathlib.Core.List.{List, [], ◌∷◌, Memᴰ}
use Prim.Native.Nat.{ℕ, max, ◌+◌, ◌*◌, ◌-◌, ◌/◌, ◌%◌, ◌^◌, ◌<◌}
use native.Mathlib.Omega.{arith}
use lib.Dec.{eqb}
use lib.Ieee.{Float, fits, of_bits, binary32, binary64}
use lib.Ieee.Bits.{of_bits-fits}
use lib.Ieee.Fits.{fits_widens}
use lib.Ieee.Scale.{finite}
use lib.IntN.{ℤ, pos, negsuc}
use lib.ListN.{get_or, set, replicate}
use borrow.Author.Tests.{lt-ltb, ltb-true}
use Rattle.lists.specs.Some.{every}
use Rattle.lists.specs.Splice.{part, splice}
use Rattle.lists.specs.Tabulate.{tabulate}
use Rattle.lists.proofs.Bools.{and_yes, cond_either, is_true}
use Rattle.lists.proofs.Some.{every_cons, every_at, every_set, every_splice, every_part, every_tabulate, every_replicate}
use Rattle.numbers.specs.Bits.{gain, rate}
use Rattle.numbers.specs.Literals.{+0, +1}
use Rattle.numbers.specs.Tests.{is_rate}
use Rattle.numbers.specs.Wrap.{signed16}
use Rattle.fields.specs.Fields.{offset_of, configuration, slot, slot_at, gain_at}
use Rattle.little.specs.Little.{at16, at32, at_dsp32}
use Rattle.adpcm.specs.declared.History.{History}
use Rattle.filters.specs.Defaults.{default_simple, default_biquad}
use Rattle.filters.specs.declared.state.BiquadFilter.{BiquadFilter}
use Rattle.filters.specs.declared.state.Filters.{Filters}
use Rattle.filters.specs.declared.state.SimpleFilter.{SimpleFilter}
use Rattle.voice.specs.Blank.{limit, blank_history, default_voice}
use Rattle.voice.specs.Range.{is_byte, unsigned, signed, history_in_range, entry_tests, entry_in_range, simple_in32, biquad_in32}
use Rattle.voice.specs.Range.{range_tests}
use Rattle.voice.specs.Range.{in_range}
use Rattle.voice.specs.Set.{set_entry_length}
use Rattle.voice.specs.declared.record.Entry.{Entry}
use Rattle.voice.specs.declared.record.Format.{Format}
use Rattle.voice.specs.declared.record.Voice.{Voice}
use Rattle.voice.proofs.Range.{below_unsigned, byte_below, half_signed, test_in_range, in_range_test, history_in_range_lem, simple_in_32}
use Rattle.voice.proofs.Range.{biquad_in_32, zero_single, one_double, default_in_range}
use Rattle.settings.specs.Dirty.{flag, FORMAT, MONO_OR_STEREO, ADPCM_COEFFICIENTS, PARTIAL_EMBEDDED_BUFFER, PARTIAL_RESET, ENABLE}
use Rattle.settings.specs.Dirty.{INTERPOLATION, RATE_MULTIPLIER, PLAY_POSITION, FILTERS_ENABLED, SIMPLE_FILTER, BIQUAD_FILTER}
use Rattle.settings.specs.Dirty.{GAIN, SYNC_COUNT, RESET, EMBEDDED_BUFFER}
use Rattle.settings.specs.Steps.{half, reset_step, partial_reset_step, enable_step, sync_step, rate_step, interpolation_step}
use Rattle.settings.specs.Steps.{coefficients_step}
use Rattle.settings.specs.Steps.{gain_step, enabled_filters, simple_filters, biquad_filters, filters_step, format_step, stereo_step}
use Rattle.settings.specs.Steps.{lengthen_step}
use Rattle.entries.specs.Entries.{history_at, position_in, embedded, slot_entry}
use Rattle.config_laws.specs.Laws.{Keeps, KeepsRange}
use Rattle.config.specs.Parsed.{settled, to_add}
use Rattle.queueing.specs.Queue.{pushed}
use Rattle.config_laws.proofs.Kept.{whole_keeps}
use Rattle.config_laws.proofs.Settled.{all_added}

-- ---- floats from any bits

gain_single : (bits : ℕ) → fits binary32 (gain bits) ≡ true
unfolding gain
gain_single bits =
    cond_either (λ (x : Float). fits binary32 x ≡ true) (finite (of_bits binary32 bits)) (of_bits binary32 bits) +0
    (is_true (fits binary32 (of_bits binary32 bits)) (of_bits-fits binary32 bits)) zero_single

rate_double : (bits : ℕ) → fits binary64 (rate bits) ≡ true
unfolding rate
rate_double bits =
    let x = of_bits binary32 bits in
    cond_either (λ (x : Float). fits binary64 x ≡ true) (is_rate x) x +1
    (is_true (fits binary64 x) (fits_widens x (of_bits-fits binary32 bits))) one_double

-- ---- numbers from bytes

wider : (z : ℤ) → signed 16 z ≡ true → signed 32 z ≡ true
unfolding signed
wider (pos n) t = let l : n < 32768 = ltb-true n 32768 t in lt-ltb n 2147483648 (omega arith)
wider (negsuc n) t = let l : n < 32768 = ltb-true n 32768 t in lt-ltb n 2147483648 (omega arith)

module _ (s : List ℕ) (bytes : every is_byte s ≡ true) where
  below_16 : (at : ℕ) → at16 s at < 65536
  below_16 at = omega (arith, byte_below s bytes at, byte_below s bytes (at + 1))

  below_dsp32 : (at : ℕ) → at_dsp32 s at < 4294967296
  below_dsp32 at = omega (arith, below_16 at, below_16 (at + 2))

  sample_at_lem : (at : ℕ) → signed 16 (signed16 (at16 s at)) ≡ true
  sample_at_lem at = half_signed (at16 s at) (below_16 at)

  half_32 : (at : ℕ) → signed 32 (half s at) ≡ true
  half_32 at = wider (signed16 (at16 s at)) (sample_at_lem at)

  -- ---- an entry

  history_read : (mark : Bool) (at : ℕ) → history_in_range (history_at mark s at) ≡ true
  unfolding history_in_range
  history_read mark at =
      cond_either (λ (h : History). history_in_range h ≡ true) mark _ blank_history
      (and_yes _ (sample_at_lem at) ∙ sample_at_lem (at + 2)) history_in_range_lem

  position_read : position_in s < 4294967296
  position_read =
      cond_either (λ (n : ℕ). n < 4294967296) (flag s PLAY_POSITION) (at_dsp32 s (offset_of configuration "PLAY_POSITION")) 0
      (below_dsp32 (offset_of configuration "PLAY_POSITION")) (omega arith)

  entry_of : (e : Entry) → e.address < 4294967296 → e.length < 4294967296 → e.id < 65536 → history_in_range e.adpcm ≡ true
      → e.play_position < 4294967296 → entry_in_range e ≡ true
  unfolding entry_in_range
  entry_of e a l i h p =
      and_yes _ (below_unsigned 32 e.address a)
      ∙ and_yes _ (below_unsigned 32 e.length l)
      ∙ and_yes _ (below_unsigned 16 e.id i)
      ∙ and_yes _ h
      ∙ and_yes true (below_unsigned 32 e.play_position p)

  embedded_read : (f : Format) (t : Bool) → entry_in_range (embedded s f t) ≡ true
  unfolding embedded
  embedded_read f t =
      entry_of (embedded s f t) (below_dsp32 (offset_of configuration "ADDRESS")) (below_dsp32 (offset_of configuration "LENGTH"))
      (below_16 (offset_of configuration "BUFFER_ID"))
      (history_read (eqb (at16 s (offset_of configuration "FLAGS2") % 2) 1) (offset_of configuration "ADPCM_YN")) position_read

  slot_read : (f : Format) (t : Bool) (k : ℕ) → entry_in_range (slot_entry s f t k) ≡ true
  unfolding slot_entry
  slot_read f t k =
      entry_of (slot_entry s f t k) (below_dsp32 (slot_at k + offset_of slot "ADDRESS")) (below_dsp32 (slot_at k + offset_of slot "LENGTH"))
      (below_16 (slot_at k + offset_of slot "BUFFER_ID"))
      (history_read (not (eqb (get_or s (slot_at k + offset_of slot "HAS_ADPCM") 0) 0)) (slot_at k + offset_of slot "ADPCM_YN"))
      (omega arith)

-- ---- the filters

record In32 (f : Filters) : Type 0 where
  simple : simple_in32 f.simple ≡ true
  biquad : biquad_in32 f.biquad ≡ true

zero_32 : signed 32 (pos 0) ≡ true
unfolding signed
zero_32 = refl

state_32 : (on : Bool) (n : ℕ) (zs : List ℤ) → every (signed 32) zs ≡ true → every (signed 32) (cond on zs (replicate n (pos 0))) ≡ true
state_32 on n zs t =
    cond_either (λ (l : List ℤ). every (signed 32) l ≡ true) on zs (replicate n (pos 0)) t (every_replicate (signed 32) n (pos 0) zero_32)

simple_state : (s : SimpleFilter) → simple_in32 s ≡ true → every (signed 32) s.y1 ≡ true
unfolding simple_in32
simple_state s t = every_at (λ t. t) (signed 32 s.b0 ∷ signed 32 s.a1 ∷ every (signed 32) s.y1 ∷ []) 2 true t refl

biquad_states : (s : BiquadFilter) → biquad_in32 s ≡ true → (every (signed 32) s.x ≡ true) × (every (signed 32) s.y ≡ true)
unfolding biquad_in32
biquad_states s t = (at 2, at 3)
  where
    tests : List Bool
    tests = every (signed 32) s.b ∷ every (signed 32) s.a ∷ every (signed 32) s.x ∷ every (signed 32) s.y ∷ []

    at : (k : ℕ) → get_or tests k true ≡ true
    at k = every_at (λ t. t) tests k true t refl

simple_of : (s : SimpleFilter) → signed 32 s.b0 ≡ true → signed 32 s.a1 ≡ true → every (signed 32) s.y1 ≡ true
    → simple_in32 s ≡ true
unfolding simple_in32
simple_of s b0 a1 y1 = and_yes _ b0 ∙ and_yes _ a1 ∙ and_yes true y1

biquad_of : (s : BiquadFilter) → every (signed 32) s.b ≡ true → every (signed 32) s.a ≡ true → every (signed 32) s.x ≡ true
    → every (signed 32) s.y ≡ true → biquad_in32 s ≡ true
unfolding biquad_in32
biquad_of s b a x y = and_yes _ b ∙ and_yes _ a ∙ and_yes _ x ∙ and_yes true y

module _ (s : List ℕ) (bytes : every is_byte s ≡ true) where
  enabled_32 : (f : Filters) → In32 f → In32 (enabled_filters s f)
  unfolding enabled_filters
  enabled_32 f p =
      let word = at16 s (offset_of configuration "FILTERS_ENABLED") in
      cond_either In32 (flag s FILTERS_ENABLED) _ f
      (record {
        simple =
            cond_either (λ (x : SimpleFilter). simple_in32 x ≡ true) (eqb (word % 2) 1 && f.has_simple) f.simple default_simple
            p.simple simple_in_32;
        biquad =
            cond_either (λ (x : BiquadFilter). biquad_in32 x ≡ true) (eqb (word / 2 % 2) 1 && f.has_biquad) f.biquad default_biquad
            p.biquad biquad_in_32;
      })
      p

  simple_32 : (f : Filters) → In32 f → In32 (simple_filters s f)
  unfolding simple_filters
  simple_32 f p =
      let at = offset_of configuration "SIMPLE_FILTER" in
      cond_either In32 (flag s SIMPLE_FILTER) _ f
      (record {
        simple =
            simple_of _ (half_32 s bytes at) (half_32 s bytes (at + 2))
            (state_32 f.has_simple 2 f.simple.y1 (simple_state f.simple p.simple));
        biquad = p.biquad;
      })
      p

  halves : (a : ℕ) (zs : List ℤ) → every (signed 32) zs ≡ true → every (signed 32) (half s a ∷ zs) ≡ true
  halves a zs t = every_cons (signed 32) (half s a) zs (half_32 s bytes a) t

  biquad_32 : (f : Filters) → In32 f → In32 (biquad_filters s f)
  unfolding biquad_filters
  biquad_32 f p =
      let at = offset_of configuration "BIQUAD_FILTER" in
      let states = biquad_states f.biquad p.biquad in
      cond_either In32 (flag s BIQUAD_FILTER) _ f
      (record {
        simple = p.simple;
        biquad =
            biquad_of _
            (halves (at + 8) (half s (at + 6) ∷ half s (at + 4) ∷ []) (halves (at + 6) (half s (at + 4) ∷ []) (halves (at + 4) [] refl)))
            (halves (at + 2) (half s at ∷ []) (halves at [] refl)) (state_32 f.has_biquad 4 f.biquad.x states.0)
            (state_32 f.has_biquad 4 f.biquad.y states.1);
      })
      p

-- ---- the steps

abbrev R : Voice → Type 0
R u = in_range u ≡ true

-- one test of a record's that passes in place of another
abbrev swap : (l : List Bool) (k : ℕ) (test : Bool) → every (λ t. t) l ≡ true → test ≡ true → every (λ t. t) (set l k test) ≡ true
swap l k test p t = every_set (λ t. t) l k test p t

pushed_range : (e : Entry) → entry_in_range e ≡ true → (u : Voice) → u.queued < limit → R u → R (pushed e u)
unfolding pushed in_range
pushed_range e new u h p =
    swap (set (range_tests u) 8 (every entry_in_range (set u.queue u.queued e))) 9 (unsigned 64 (u.queued + 1))
    (swap (range_tests u) 8 (every entry_in_range (set u.queue u.queued e)) p
    (every_set entry_in_range u.queue u.queued e (test_in_range u p).queue new))
    (below_unsigned 64 (u.queued + 1) (omega arith))

module _ (bytes : List ℕ) where
  reset_range : Keeps R (reset_step bytes)
  unfolding reset_step
  reset_range u p = cond_either R (flag bytes RESET) default_voice u (in_range_test default_voice default_in_range) p

  partial_range : Keeps R (partial_reset_step bytes)
  unfolding partial_reset_step in_range
  partial_range u p =
      cond_either R (flag bytes PARTIAL_RESET) _ u (swap (range_tests u) 9 (unsigned 64 0) p (below_unsigned 64 0 (omega arith))) p

  enable_range : Keeps R (enable_step bytes)
  unfolding enable_step in_range
  enable_range u p = cond_either R (flag bytes ENABLE) _ u p p

  rate_range : Keeps R (rate_step bytes)
  unfolding rate_step in_range
  rate_range u p =
      let bits = at32 bytes (offset_of configuration "RATE_MULTIPLIER") in
      cond_either R (flag bytes RATE_MULTIPLIER) _ u (swap (range_tests u) 1 (fits binary64 (rate bits)) p (rate_double bits)) p

  interpolation_range : Keeps R (interpolation_step bytes)
  unfolding interpolation_step in_range
  interpolation_range u p = cond_either R (flag bytes INTERPOLATION) _ u p p

  coefficients_range : (cs : List ℕ) → every is_byte cs ≡ true → Keeps R (coefficients_step bytes cs)
  unfolding coefficients_step in_range
  coefficients_range cs b u p =
      let new = tabulate (λ i. signed16 (at16 cs (i * 2))) 16 in
      cond_either R (flag bytes ADPCM_COEFFICIENTS) _ u
      (swap (range_tests u) 6 (every (signed 16) new) p
      (every_tabulate (signed 16) (λ i. signed16 (at16 cs (i * 2))) 16 (λ i. sample_at_lem cs b (i * 2)))) p

  gain_range : (k : ℕ) → Keeps R (gain_step bytes k)
  unfolding gain_step in_range
  gain_range k u p =
      let r = test_in_range u p in
      let read = tabulate (λ channel. gain (at32 bytes (gain_at k channel))) 4 in
      let gains = splice u.gain (k * 4) read in
      let ramps = splice u.ramp (k * 4) (part (k * 4) 4 u.gain) in
      let tests = set (range_tests u) 4 (every (fits binary32) gains) in
      cond_either R (flag bytes (GAIN * 2 ^ k)) _ u
      (swap tests 5 (every (fits binary32) ramps)
      (swap (range_tests u) 4 (every (fits binary32) gains) p
      (every_splice (fits binary32) u.gain (k * 4) read r.gain
      (every_tabulate (fits binary32) (λ channel. gain (at32 bytes (gain_at k channel))) 4
      (λ channel. gain_single (at32 bytes (gain_at k channel))))))
      (every_splice (fits binary32) u.ramp (k * 4) (part (k * 4) 4 u.gain) r.ramp
      (every_part (fits binary32) (k * 4) 4 u.gain r.gain)))
      p

  format_range : Keeps R (format_step bytes)
  unfolding format_step in_range
  format_range u p = cond_either R (flag bytes FORMAT || flag bytes EMBEDDED_BUFFER) _ u p p

  stereo_range : Keeps R (stereo_step bytes)
  unfolding stereo_step in_range
  stereo_range u p = cond_either R (flag bytes MONO_OR_STEREO || flag bytes EMBEDDED_BUFFER) _ u p p

  module _ (b : every is_byte bytes ≡ true) where
    sync_range : Keeps R (sync_step bytes)
    unfolding sync_step in_range
    sync_range u p =
        let count = at16 bytes (offset_of configuration "SYNC_COUNT") in
        cond_either R (flag bytes SYNC_COUNT) _ u
        (swap (range_tests u) 0 (unsigned 16 count) p (below_unsigned 16 count (below_16 bytes b (offset_of configuration "SYNC_COUNT")))) p

    filters_range : Keeps R (filters_step bytes)
    unfolding filters_step in_range
    filters_range u p =
        let r = test_in_range u p in
        let f = enabled_filters bytes u.filters in
        let g = simple_filters bytes f in
        let all : In32 (biquad_filters bytes g) =
        biquad_32 bytes b g (simple_32 bytes b f (enabled_32 bytes b u.filters (record { simple = r.simple; biquad = r.biquad }))) in
        swap (set (range_tests u) 2 (simple_in32 (biquad_filters bytes g).simple)) 3 (biquad_in32 (biquad_filters bytes g).biquad)
        (swap (range_tests u) 2 (simple_in32 (biquad_filters bytes g).simple) p all.simple) all.biquad

    -- an entry with another length
    longer : (e : Entry) (n : ℕ) → n < 4294967296 → entry_in_range e ≡ true → entry_in_range (set_entry_length n e) ≡ true
    unfolding entry_in_range
    longer e n h p = swap (entry_tests e) 1 (unsigned 32 n) p (below_unsigned 32 n h)

    lengthen_range : Keeps R (lengthen_step bytes)
    unfolding lengthen_step in_range
    lengthen_range u p =
        let r = test_in_range u p in
        let played = u.length - u.remaining in
        let n = max (at_dsp32 bytes (offset_of configuration "LENGTH")) played in
        let h : n < 4294967296 = omega (arith, below_dsp32 bytes b (offset_of configuration "LENGTH")) in
        let playing = cond u.has_playing (set_entry_length n u.playing) u.playing in
        let tests = set (range_tests u) 10 (entry_in_range playing) in
        cond_either R (flag bytes PARTIAL_EMBEDDED_BUFFER) _ u
        (swap (set tests 12 (unsigned 32 (n - played))) 13 (unsigned 32 n)
        (swap tests 12 (unsigned 32 (n - played))
        (swap (range_tests u) 10 (entry_in_range playing) p
        (cond_either (λ (e : Entry). entry_in_range e ≡ true) u.has_playing (set_entry_length n u.playing) u.playing
        (longer u.playing n h r.playing) r.playing))
        (below_unsigned 32 (n - played) (omega arith)))
        (below_unsigned 32 n h))
        p

    entry_range : (cs : List ℕ) (v : Voice) (e : Entry) → Memᴰ e (to_add bytes cs v) → entry_in_range e ≡ true
    unfolding to_add
    entry_range cs v e m =
        let f = (settled bytes cs v).format in
        let t = (settled bytes cs v).stereo in
        all_added (λ (x : Entry). entry_in_range x ≡ true) bytes f t (embedded_read bytes b f t) (slot_read bytes b f t) e m

pub keeps_range : KeepsRange
keeps_range bytes cs v L b c p =
    whole_keeps R bytes cs v L (
      reset_range bytes,
      (
        partial_range bytes,
        (
          enable_range bytes,
          (
            sync_range bytes b,
            (
              rate_range bytes,
              (
                interpolation_range bytes,
                (
                  coefficients_range bytes cs c,
                  (
                    gain_range bytes 0,
                    (
                      gain_range bytes 1,
                      (
                        gain_range bytes 2,
                        (filters_range bytes b, (format_range bytes, (stereo_range bytes, (lengthen_range bytes b, tt)))),
                      ),
                    ),
                  ),
                ),
              ),
            ),
          ),
        ),
      ),
    )
    (λ e m short u room q. pushed_range e (entry_range bytes b cs v e m) u room q) p
