-- A record passes the tests of its types exactly where what they ask is known of it, both ways; the default voice passes them. By taking
-- the tests apart one by one. Assumes nothing.
use Prim.Native.Nat.{ℕ, ◌-◌, ◌^◌, ◌≤◌, ◌<◌}
use mathlib.Core.Bool.{Bool, true, false, cond}
use mathlib.Core.List.{List}
use mathlib.Core.Path.{◌≡◌, refl, ◌∙◌}
use lib.Dec.{ltb}
use lib.Ieee.{fits, binary32, binary64}
use lib.IntN.{pos, negsuc}
use lib.ListN.{length, get_or, length-replicate}
use native.Mathlib.Omega.{arith}
use borrow.Author.Tests.{lt-ltb, ltb-true, ltb-false, eq-eqb, eqb-true}
use Rattle.lists.specs.Some.{every}
use Rattle.lists.proofs.Bools.{and_yes, and_both}
use Rattle.lists.proofs.Some.{every_at, every_replicate}
use Rattle.numbers.specs.Literals.{+0, +1}
use Rattle.numbers.specs.Wrap.{signed16}
use Rattle.filters.specs.Defaults.{default_simple, default_biquad}
use Rattle.voice.specs.declared.record.Voice.{Voice}
use Rattle.voice.specs.Blank.{places, blank_history, blank_entry, default_voice}
use Rattle.voice.specs.Range.{is_byte, unsigned, signed, history_in_range, entry_in_range}
use Rattle.voice.specs.Range.{simple_in32, biquad_in32, range_tests, in_range, InRange}
use Rattle.voice.specs.Range.{sized, Sized}

-- ---- a number

pub unsigned_below : (bits n : ℕ) → unsigned bits n ≡ true → n < 2 ^ bits
unfolding unsigned
unsigned_below bits n t = ltb-true n (2 ^ bits) t

pub below_unsigned : (bits n : ℕ) → n < 2 ^ bits → unsigned bits n ≡ true
unfolding unsigned
below_unsigned bits n h = lt-ltb n (2 ^ bits) h

-- ---- a byte, and 16 bits read as a sample

pub byte_below : (s : List ℕ) → every is_byte s ≡ true → (at : ℕ) → get_or s at 0 < 256
byte_below s bytes at = unsigned_below 8 (get_or s at 0) (every_at is_byte s at 0 bytes (below_unsigned 8 0 (omega arith)))

pub half_signed : (k : ℕ) → k < 65536 → signed 16 (signed16 k) ≡ true
unfolding signed
half_signed k h = by (ltb k 32768) refl
  where
    by : (b : Bool) → ltb k 32768 ≡ b → signed 16 (cond b (pos k) (negsuc (65535 - k))) ≡ true
    by true e = e
    by false e = let g : 32768 ≤ k = ltb-false k 32768 e in lt-ltb (65535 - k) 32768 (omega arith)

-- ---- both ways

module _ (v : Voice) where
  pub test_in_range : in_range v ≡ true → InRange v
  unfolding in_range
  test_in_range e =
      let passes : (k : ℕ) → get_or (range_tests v) k true ≡ true = λ k. every_at (λ t. t) (range_tests v) k true e refl in
      record {
        sync_count = unsigned_below 16 v.sync_count (passes 0);
        rate = passes 1;
        simple = passes 2;
        biquad = passes 3;
        gain = passes 4;
        ramp = passes 5;
        coefficients = passes 6;
        history = passes 7;
        queue = passes 8;
        queued = unsigned_below 64 v.queued (passes 9);
        playing = passes 10;
        decoded = unsigned_below 32 v.decoded (passes 11);
        remaining = unsigned_below 32 v.remaining (passes 12);
        length = unsigned_below 32 v.length (passes 13);
        fraction = passes 14;
        current_buffer_id = unsigned_below 16 v.current_buffer_id (passes 15);
        last_buffer_id = unsigned_below 16 v.last_buffer_id (passes 16);
        position = unsigned_below 32 v.position (passes 17);
        frame = passes 18;
      }

  pub in_range_test : InRange v → in_range v ≡ true
  unfolding in_range
  in_range_test r =
      and_yes _ (below_unsigned 16 v.sync_count r.sync_count)
      ∙ and_yes _ r.rate
      ∙ and_yes _ r.simple
      ∙ and_yes _ r.biquad
      ∙ and_yes _ r.gain
      ∙ and_yes _ r.ramp
      ∙ and_yes _ r.coefficients
      ∙ and_yes _ r.history
      ∙ and_yes _ r.queue
      ∙ and_yes _ (below_unsigned 64 v.queued r.queued)
      ∙ and_yes _ r.playing
      ∙ and_yes _ (below_unsigned 32 v.decoded r.decoded)
      ∙ and_yes _ (below_unsigned 32 v.remaining r.remaining)
      ∙ and_yes _ (below_unsigned 32 v.length r.length)
      ∙ and_yes _ r.fraction
      ∙ and_yes _ (below_unsigned 16 v.current_buffer_id r.current_buffer_id)
      ∙ and_yes _ (below_unsigned 16 v.last_buffer_id r.last_buffer_id)
      ∙ and_yes _ (below_unsigned 32 v.position r.position)
      ∙ and_yes true r.frame

  pub test_sized : sized v ≡ true → Sized v
  unfolding sized
  test_sized e =
      let t0 = and_both _ _ e in
      let t1 = and_both _ _ t0.1 in
      let t2 = and_both _ _ t1.1 in
      let t3 = and_both _ _ t2.1 in
      let t4 = and_both _ _ t3.1 in
      let t5 = and_both _ _ t4.1 in
      let t6 = and_both _ _ t5.1 in
      let t7 = and_both _ _ t6.1 in
      let t8 = and_both _ _ t7.1 in
      let t9 = and_both _ _ t8.1 in
      let t10 = and_both _ _ t9.1 in
      record {
        gain = eqb-true (length v.gain) 12 t0.0;
        marks = eqb-true (length v.has_ramp) 3 t1.0;
        ramp = eqb-true (length v.ramp) 12 t2.0;
        coefficients = eqb-true (length v.coefficients) 16 t3.0;
        queue = eqb-true (length v.queue) places t4.0;
        frame = eqb-true (length v.frame) 320 t5.0;
        y1 = eqb-true (length v.filters.simple.y1) 2 t6.0;
        b = eqb-true (length v.filters.biquad.b) 3 t7.0;
        a = eqb-true (length v.filters.biquad.a) 2 t8.0;
        x = eqb-true (length v.filters.biquad.x) 4 t9.0;
        y = eqb-true (length v.filters.biquad.y) 4 t10.0;
      }

  pub sized_test : Sized v → sized v ≡ true
  unfolding sized
  sized_test s =
      and_yes _ (eq-eqb (length v.gain) 12 s.gain)
      ∙ and_yes _ (eq-eqb (length v.has_ramp) 3 s.marks)
      ∙ and_yes _ (eq-eqb (length v.ramp) 12 s.ramp)
      ∙ and_yes _ (eq-eqb (length v.coefficients) 16 s.coefficients)
      ∙ and_yes _ (eq-eqb (length v.queue) places s.queue)
      ∙ and_yes _ (eq-eqb (length v.frame) 320 s.frame)
      ∙ and_yes _ (eq-eqb (length v.filters.simple.y1) 2 s.y1)
      ∙ and_yes _ (eq-eqb (length v.filters.biquad.b) 3 s.b)
      ∙ and_yes _ (eq-eqb (length v.filters.biquad.a) 2 s.a)
      ∙ and_yes _ (eq-eqb (length v.filters.biquad.x) 4 s.x)
      ∙ and_yes true (eq-eqb (length v.filters.biquad.y) 4 s.y)

-- ---- the default voice, and what it is made of

pub blank_in_range : entry_in_range blank_entry ≡ true
unfolding entry_in_range history_in_range unsigned signed blank_entry
blank_in_range = refl

pub history_in_range_lem : history_in_range blank_history ≡ true
unfolding history_in_range signed
history_in_range_lem = refl

pub simple_in_32 : simple_in32 default_simple ≡ true
unfolding simple_in32 signed
simple_in_32 = refl

pub biquad_in_32 : biquad_in32 default_biquad ≡ true
unfolding biquad_in32 signed
biquad_in_32 = refl

pub zero_sample : signed 16 (pos 0) ≡ true
unfolding signed
zero_sample = refl

pub zero_single : fits binary32 +0 ≡ true
unfolding fits
zero_single = refl

pub zero_double : fits binary64 +0 ≡ true
unfolding fits
zero_double = refl

pub one_double : fits binary64 +1 ≡ true
unfolding fits
one_double = refl

pub default_in_range : InRange default_voice
unfolding default_voice
default_in_range = record {
  sync_count = omega arith;
  rate = one_double;
  simple = simple_in_32;
  biquad = biquad_in_32;
  gain = every_replicate (fits binary32) 12 +0 zero_single;
  ramp = every_replicate (fits binary32) 12 +0 zero_single;
  coefficients = every_replicate (signed 16) 16 (pos 0) zero_sample;
  history = history_in_range_lem;
  queue = every_replicate entry_in_range places blank_entry blank_in_range;
  queued = omega arith;
  playing = blank_in_range;
  decoded = omega arith;
  remaining = omega arith;
  length = omega arith;
  fraction = zero_double;
  current_buffer_id = omega arith;
  last_buffer_id = omega arith;
  position = omega arith;
  frame = every_replicate (signed 16) 320 (pos 0) zero_sample;
}

pub default_sized : Sized default_voice
unfolding default_voice
default_sized = record {
  gain = refl;
  marks = refl;
  ramp = refl;
  coefficients = refl;
  queue = refl;
  frame = length-replicate 320 (pos 0);
  y1 = refl;
  b = refl;
  a = refl;
  x = refl;
  y = refl;
}
