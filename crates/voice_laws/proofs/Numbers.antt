-- What a frame hands out holds numbers of its types: a part is a saturating cast or 0, a status has the bytes of numbers in range, and what
-- is cleared in a configuration is stored over by zeros. By what each list is made of. Assumes nothing.
use mathlib.Core.Path.{◌≡◌, refl, ◌∙◌}
use mathlib.Core.Bool.{Bool, true, false, cond}
use mathlib.Core.List.{List, ◌++◌}
use Prim.Native.Nat.{ℕ, ◌/◌, ◌%◌, ◌<◌}
use native.Mathlib.Omega.{arith}
use lib.Dec.{eqb}
use lib.Ieee.{Float, nan, ne}
use lib.Ieee.Casts.{to_signed_in}
use lib.IntN.{ℤ, pos}
use lib.ListN.{length, get_or, replicate}
use lib.Signed.{mag}
use mir.Syntax.{w16}
use mir.Val.{SFits}
use borrow.Author.Tests.{lt-ltb, ltb-true}
use Rattle.lists.specs.Some.{every}
use Rattle.lists.proofs.Bools.{and_yes, cond_either}
use Rattle.lists.proofs.Some.{every_at, every_append, every_splice, every_tabulate, every_replicate}
use Rattle.lists.proofs.Tabulate.{length_tabulate}
use Rattle.numbers.specs.Wrap.{wrap32}
use Rattle.numbers.proofs.Ranges.{wrap_self}
use Rattle.fields.specs.Fields.{status, total}
use Rattle.little.specs.Little.{bytes16, dsp32_bytes}
use Rattle.mixing.specs.Gain.{at_gain, fading}
use Rattle.voice.specs.Range.{is_byte, signed, InRange}
use Rattle.voice.specs.declared.record.Voice.{Voice}
use Rattle.voice.proofs.Range.{below_unsigned}
use Rattle.settings.specs.Dirty.{dirty_in, flag, BUFFER_QUEUE}
use Rattle.config.specs.Parsed.{slots_cleared, cleared, refusal, bytes_after}
use Rattle.mix_voice.specs.Mixed.{mix_of, gain_of, place_of, sample_at, part_of, ramped_at}
use Rattle.status.specs.Status.{bit, status_of}
use Rattle.voice_frame.specs.VoiceFrame.{parts_of}

-- ---- signed numbers

-- a sample by what holds it, both ways
pub sample_fits : (z : ℤ) → signed 16 z ≡ true → SFits w16 z
unfolding signed
sample_fits z t = record { sfits = ltb-true (mag z) 32768 t }

pub fits_sample : (z : ℤ) → SFits w16 z → signed 16 z ≡ true
unfolding signed
fits_sample z f = lt-ltb (mag z) 32768 f.sfits

pub zero_32 : signed 32 (pos 0) ≡ true
unfolding signed
zero_32 = refl

-- a sample is a 32-bit number
pub sample_32 : (z : ℤ) → signed 16 z ≡ true → signed 32 z ≡ true
unfolding signed
sample_32 z t = let h : mag z < 32768 = ltb-true (mag z) 32768 t in lt-ltb (mag z) 2147483648 (omega arith)

-- and a 32-bit number wraps to itself
pub parts_wrap : (parts : List ℤ) → every (signed 32) parts ≡ true → (i : ℕ) → wrap32 (get_or parts i (pos 0)) ≡ get_or parts i (pos 0)
unfolding signed
parts_wrap parts t i =
    wrap_self (get_or parts i (pos 0))
    (record { sfits = ltb-true (mag (get_or parts i (pos 0))) 2147483648 (every_at (signed 32) parts i (pos 0) t zero_32) })

-- ---- what a voice adds

gain_32 : (gain : Float) (sample : ℤ) → signed 32 (at_gain gain sample) ≡ true
unfolding signed at_gain
gain_32 gain sample = lt-ltb _ _ (to_signed_in 31 _)

fading_32 : (from to : Float) (i : ℕ) (sample : ℤ) → signed 32 (fading from to i sample) ≡ true
unfolding signed fading
fading_32 from to i sample = lt-ltb _ _ (to_signed_in 31 _)

part_32 : (on : Bool) (from to : Float) (i : ℕ) (sample : ℤ) → signed 32 (part_of on from to i sample) ≡ true
part_32 on from to i sample =
    let is : ℤ → Type 0 = λ (z : ℤ). signed 32 z ≡ true in
    cond_either is on (cond (ne from to) (fading from to i sample) (at_gain to sample)) (at_gain to sample)
    (cond_either is (ne from to) (fading from to i sample) (at_gain to sample) (fading_32 from to i sample) (gain_32 to sample))
    (gain_32 to sample)

module _ (v : Voice) where
  abbrev part : ℕ → ℤ
  part k = cond v.enabled (ramped_at v.has_ramp v.ramp v.gain v.frame k) (pos 0)

  at_32 : (k : ℕ) → signed 32 (part k) ≡ true
  at_32 k =
      cond_either (λ (z : ℤ). signed 32 z ≡ true) v.enabled (ramped_at v.has_ramp v.ramp v.gain v.frame k) (pos 0)
      (part_32 (get_or v.has_ramp (mix_of k) false) (get_or v.ramp (gain_of k) nan) (get_or v.gain (gain_of k) nan) (place_of k)
      (sample_at v.frame k))
      zero_32

  pub parts_32 : every (signed 32) (parts_of v) ≡ true
  unfolding parts_of
  parts_32 = every_tabulate (signed 32) part 1920 at_32

  pub parts_long : length (parts_of v) ≡ 1920
  unfolding parts_of
  parts_long = length_tabulate part 1920

-- ---- bytes

byte : (n : ℕ) → n < 256 → is_byte n ≡ true
byte n h = below_unsigned 8 n h

bytes16_bytes : (n : ℕ) → n < 65536 → every is_byte (bytes16 n) ≡ true
bytes16_bytes n h = and_yes _ (byte (n % 256) (omega arith)) ∙ and_yes true (byte (n / 256) (omega arith))

both_bytes : (xs ys : List ℕ) → every is_byte xs ≡ true → every is_byte ys ≡ true → every is_byte (xs ++ ys) ≡ true
both_bytes xs ys p q = every_append is_byte xs ys ∙ and_yes _ p ∙ q

dsp32_bytes_lem : (n : ℕ) → n < 4294967296 → every is_byte (dsp32_bytes n) ≡ true
dsp32_bytes_lem n h =
    both_bytes (bytes16 (n / 65536)) (bytes16 (n % 65536)) (bytes16_bytes (n / 65536) (omega arith))
    (bytes16_bytes (n % 65536) (omega arith))

bit_byte : (mark : Bool) → is_byte (bit mark) ≡ true
bit_byte mark = cond_either (λ (n : ℕ). is_byte n ≡ true) mark 1 0 (byte 1 (omega arith)) (byte 0 (omega arith))

module _ (v : Voice) where
  pub status_in : InRange v → every is_byte (status_of v) ≡ true
  unfolding status_of
  status_in r =
      let sync = bytes16 v.sync_count in
      let position = dsp32_bytes v.position in
      let current = bytes16 v.current_buffer_id in
      let last = bytes16 v.last_buffer_id in
      and_yes _ (bit_byte v.enabled) ∙ and_yes _ (bit_byte v.buffer_update)
      ∙ both_bytes sync (position ++ (current ++ last)) (bytes16_bytes v.sync_count r.sync_count)
      (both_bytes position (current ++ last) (dsp32_bytes_lem v.position r.position)
      (both_bytes current last (bytes16_bytes v.current_buffer_id r.current_buffer_id)
      (bytes16_bytes v.last_buffer_id r.last_buffer_id)))

  pub status_long : length (status_of v) ≡ total status
  unfolding status_of
  status_long = refl

-- ---- a configuration's bytes

zeros : (n : ℕ) → every is_byte (replicate n 0) ≡ true
zeros n = every_replicate is_byte n 0 (byte 0 (omega arith))

abbrev Bytes : List ℕ → Type 0
Bytes l = every is_byte l ≡ true

slots_in : (bytes : List ℕ) → Bytes bytes → Bytes (slots_cleared bytes)
unfolding slots_cleared
slots_in bytes b = cond_either Bytes (flag bytes BUFFER_QUEUE) _ bytes (every_splice is_byte bytes _ (replicate 2 0) b (zeros 2)) b

cleared_in : (bytes : List ℕ) → Bytes bytes → Bytes (cleared bytes)
unfolding cleared
cleared_in bytes b = every_splice is_byte (slots_cleared bytes) _ (replicate 4 0) (slots_in bytes b) (zeros 4)

pub bytes_in : (bytes coefficients : List ℕ) (v : Voice) (L : ℕ) → Bytes bytes → Bytes (bytes_after bytes coefficients v L)
unfolding bytes_after
bytes_in bytes coefficients v L b =
    cond_either Bytes (eqb (dirty_in bytes) 0) bytes _ b
    (cond_either Bytes (eqb (refusal bytes coefficients v L) 0) (cleared bytes) bytes (cleared_in bytes b) b)
