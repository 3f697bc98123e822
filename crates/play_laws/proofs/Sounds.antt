-- Samples are numbers of 16 bits: those that are decoded, since a sum is clamped; those read from bytes or from a lane of such numbers;
-- those between two, since the cast saturates. So is what a frame holds. Assumes nothing.
use mathlib.Core.Path.{◌≡◌, refl, ap, ◌∙◌}
use mathlib.Core.Bool.{true, ◌||◌}
use mathlib.Core.List.{List, [], ◌∷◌, ◌++◌, flat_map}
use Prim.Native.Nat.{ℕ, ◌+◌, ◌-◌, ◌*◌}
use native.Mathlib.Omega.{arith}
use lib.Dec.{ltb}
use lib.Ieee.{Float, eq}
use lib.Ieee.Casts.{to_signed_in}
use lib.IntN.{ℤ, pos}
use lib.ListN.{length, get_or, take, replicate}
use lib.Signed.{shr_z}
use borrow.Author.Tests.{lt-ltb}
use Rattle.lists.specs.Some.{every}
use Rattle.lists.specs.Splice.{part}
use Rattle.lists.proofs.Bools.{and_yes, and_both, cond_either}
use Rattle.lists.proofs.Some.{every_at, every_append, every_part, every_replicate}
use Rattle.numbers.specs.Literals.{+0}
use Rattle.numbers.specs.Wrap.{wrap32, signed16}
use Rattle.numbers.proofs.Ranges.{clamp_fits}
use Rattle.mixing.specs.Interpolate.{interpolate}
use Rattle.little.specs.Little.{at16}
use Rattle.window.specs.Window.{present_in, look_up}
use Rattle.steps.specs.declared.step.Cursor.{Cursor}
use Rattle.adpcm.specs.Adpcm.{sample_of}
use Rattle.adpcm.specs.Code.{Code, sum_of, after, samples_of, history_after, frames_of, codes_of, decoded_samples, decoded_history}
use Rattle.adpcm.specs.declared.History.{History}
use Rattle.voice.specs.Range.{is_byte, signed, history_in_range}
use Rattle.voice.specs.declared.record.Entry.{Entry}
use Rattle.voice.specs.declared.record.Format.{Format}
use Rattle.voice.specs.declared.record.Format.TheVariants.{Pcm8, Pcm16, Adpcm}
use Rattle.voice.proofs.Range.{byte_below, half_signed, zero_sample}
use Rattle.samples.specs.declared.Sample.{Sample}
use Rattle.samples.specs.Samples.{silence, both, mono_of8, stereo_of8, mono_of16, stereo_of16, bytes_at, sample_by, sample_at}
use Rattle.track.specs.declared.Track.{Track}
use Rattle.track.specs.Track.{place_of, between_samples, heard_by, heard_at, sound_of}
use Rattle.std.proofs.Common.{Option, None, Some}
use Rattle.voice.specs.declared.record.Entry.{Entry}
use Rattle.play.specs.Play.{sides, frame_of}
use Rattle.play.proofs.Laying.{values_more}

-- ---- decoded

decoded_sample : (h : History) (c : Code) → signed 16 (sample_of h c) ≡ true
unfolding signed sample_of
decoded_sample h c = lt-ltb _ _ (clamp_fits (shr_z (wrap32 (sum_of h c)) 2048)).sfits

samples_signed : (h : History) (codes : List Code) → every (signed 16) (samples_of sample_of h codes) ≡ true
samples_signed h [] = refl
samples_signed h (c ∷ codes) = and_yes _ (decoded_sample h c) ∙ samples_signed (after sample_of h c) codes

history_signed : (h : History) → history_in_range h ≡ true → (codes : List Code) → history_in_range (history_after sample_of h codes) ≡ true
unfolding history_in_range
history_signed h t [] = t
history_signed h t (c ∷ codes) =
    history_signed (after sample_of h c) (and_yes _ (decoded_sample h c) ∙ (and_both (signed 16 h.yn1) (signed 16 h.yn2) t).0) codes

pub decoded_signed : (cs : List ℤ) (h : History) (bytes : List ℕ) (n : ℕ)
    → every (signed 16) (decoded_samples sample_of cs h bytes n) ≡ true
decoded_signed cs h bytes n = samples_signed h (take n (codes_of (frames_of n) cs bytes))

pub decoded_history_lem : (h : History) → history_in_range h ≡ true → (cs : List ℤ) (bytes : List ℕ) (n : ℕ)
    → history_in_range (decoded_history sample_of cs h bytes n) ≡ true
decoded_history_lem h t cs bytes n = history_signed h t (take n (codes_of (frames_of n) cs bytes))

-- ---- read

-- both values of a sample
pub record In16 (s : Sample) : Type 0 where
  pub left : signed 16 s.left ≡ true
  pub right : signed 16 s.right ≡ true

silence_16 : In16 silence
silence_16 = record { left = zero_sample; right = zero_sample }

module _ (window : List ℕ) (base : ℕ) (bytes : every is_byte window ≡ true) where
  looked_bytes : (address count : ℕ) → every is_byte (look_up window base address count) ≡ true
  looked_bytes address count =
      cond_either (λ (l : List ℕ). every is_byte l ≡ true) (present_in (length window) base address count)
      (part (address - base) count window) [] (every_part is_byte (address - base) count window bytes) refl

  module _ (address size index : ℕ) where
    abbrev found : List ℕ
    found = bytes_at window base address size index

    whole : every is_byte found ≡ true
    whole = looked_bytes _ size

    high : (k : ℕ) → signed 16 (signed16 (get_or found k 0 * 256)) ≡ true
    high k = half_signed (get_or found k 0 * 256) (omega (arith, byte_below found whole k))

    half : (k : ℕ) → signed 16 (signed16 (at16 found k)) ≡ true
    half k = half_signed (at16 found k) (omega (arith, byte_below found whole k, byte_below found whole (k + 1)))

  module _ (lane : List ℤ) (samples : every (signed 16) lane ≡ true) (decoded : ℕ) (e : Entry) where
    sample_16 : (f : Format) (index : ℕ) → In16 (sample_by window base lane decoded f e index)
    sample_16 Pcm8 index =
        cond_either In16 e.stereo (stereo_of8 (bytes_at window base e.address 2 index))
        (mono_of8 (bytes_at window base e.address 1 index))
        (record { left = high e.address 2 index 0; right = high e.address 2 index 1 })
        (record { left = high e.address 1 index 0; right = high e.address 1 index 0 })
    sample_16 Pcm16 index =
        cond_either In16 e.stereo (stereo_of16 (bytes_at window base e.address 4 index))
        (mono_of16 (bytes_at window base e.address 2 index))
        (record { left = half e.address 4 index 0; right = half e.address 4 index 2 })
        (record { left = half e.address 2 index 0; right = half e.address 2 index 0 })
    sample_16 Adpcm index =
        let value = every_at (signed 16) lane index (pos 0) samples zero_sample in
        cond_either In16 (ltb index decoded) (both (get_or lane index (pos 0))) silence (record { left = value; right = value }) silence_16

  -- ---- produced

  between_16 : (a b : ℤ) (fraction : Float) → signed 16 (interpolate a b fraction) ≡ true
  unfolding signed interpolate
  between_16 a b fraction = lt-ltb _ _ (to_signed_in 15 _)

  module _ (lane : List ℤ) (samples : every (signed 16) lane ≡ true) (t : Track) where
    heard_16 : (place : ℕ) → In16 (heard_at window base lane t place)
    unfolding heard_at sample_at
    heard_16 place = by t.playing
      where
        by : (o : Option Entry) → In16 (heard_by window base lane t o place)
        by None = silence_16
        by (Some e) = sample_16 lane samples t.decoded e e.format _

    pub sound_16 : (c : Cursor) → In16 (sound_of window base lane t c)
    unfolding sound_of between_samples
    sound_16 c =
        cond_either In16 (t.plain || eq c.fraction +0) _ _ (heard_16 (place_of window base lane t c))
        (record { left = between_16 _ _ c.fraction; right = between_16 _ _ c.fraction })

-- ---- in a frame

abbrev pub AllIn16 : List Sample → Type 0
AllIn16 samples = every (signed 16) (flat_map sides samples) ≡ true

pub more_16 : (samples : List Sample) (s : Sample) → AllIn16 samples → In16 s → AllIn16 (samples ++ (s ∷ []))
more_16 samples s a t =
    ap (every (signed 16)) (values_more samples s)
    ∙ every_append (signed 16) (flat_map sides samples) (sides s)
    ∙ and_yes _ a
    ∙ and_yes _ t.left
    ∙ and_yes true t.right

pub frame_16 : (samples : List Sample) → AllIn16 samples → every (signed 16) (frame_of samples) ≡ true
unfolding frame_of
frame_16 samples a =
    every_append (signed 16) (flat_map sides samples) (replicate (320 - length samples * 2) (pos 0))
    ∙ and_yes _ a
    ∙ every_replicate (signed 16) (320 - length samples * 2) (pos 0) zero_sample
