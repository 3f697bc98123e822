-- Where an entry is ready, the sample at each place of it is the definition's: one look-up of all its bytes holds the bytes that the
-- look-up of each sample gives. By the bytes of both in the window. Assumes nothing.
use mathlib.Core.Path.{◌≡◌, refl, sym, ap, ◌∙◌, subst}
use Rattle.std.proofs.Common.{Option}
use mathlib.Core.Bool.{Bool, true, false, ◌||◌, cond}
use mathlib.Core.List.{List, []}
use Prim.Native.Nat.{ℕ, ◌+◌, ◌-◌, ◌*◌, ◌%◌, ◌^◌, ◌≤◌, ◌<◌, min}
use native.Mathlib.Omega.{arith}
use lib.Dec.{ltb}
use lib.IntN.{ℤ, pos}
use lib.ListN.{length, get_or}
use lib.Ieee.{eq}
use borrow.Author.Tests.{lt-ltb, ltb-true, leb-true}
use Rattle.lists.proofs.Bools.{cond_yes, cond_no}
use Rattle.numbers.specs.Literals.{+0}
use Rattle.numbers.specs.Wrap.{signed16}
use Rattle.window.specs.Window.{present_in, look_up, AllInside, byte_of}
use Rattle.window.proofs.Bytes.{looked_up, each, absent, there_long}
use Rattle.voice.specs.Long.{is_adpcm}
use Rattle.voice.specs.declared.record.Entry.{Entry}
use Rattle.voice.specs.declared.record.Format.{Format}
use Rattle.voice.specs.declared.record.Format.TheVariants.{Pcm8, Pcm16, Adpcm}
use Rattle.dequeue.specs.Dequeue.{aligned}
use Rattle.samples.specs.Samples as samples
use Rattle.samples.specs.Samples.{stereo_sample, both, silence, high_byte, pcm8_at, pcm16_at, sample_at}
use Rattle.steps.specs.declared.step.Cursor.{Cursor}
use Rattle.track.specs.Track.{between_samples, heard_by, heard_at, sound_of}
use Rattle.track.specs.declared.Track.{Track}
use Rattle.stretches.specs.Source.{size8, size16, size_by, size_of, held_by, pcm8_in, pcm16_in, sample_by, sample_in}
use Rattle.stretches.specs.Source.{entry_bytes, is_held, AtHand, sound_by, sound_in}

-- ---- bytes

module _ (window : List ℕ) (base address total : ℕ) (all : AllInside (length window) base address total)
    (low : address + total < 2 ^ 32) where
  -- a byte of a sample is that of the whole entry
  byte : (size p k q : ℕ) → k < size → p * size + size ≤ total → q ≡ p * size + k
      → get_or (look_up window base ((address + p * size) % 2 ^ 32) size) k 0 ≡ get_or (look_up window base address total) q 0
  byte size p k q h fit e =
      let small : (address + p * size) % 2 ^ 32 ≡ address + p * size = omega arith in
      let same : address + p * size + k ≡ address + q = omega arith in
      ap (λ (a : ℕ). get_or (look_up window base a size) k 0) small
      ∙ (looked_up window base (address + p * size) size).bytes part k h
      ∙ ap (byte_of window base) same
      ∙ sym ((looked_up window base address total).bytes all q (omega arith))
    where
      part : AllInside (length window) base (address + p * size) size
      part j l =
          let i = all (p * size + j) (omega arith) in
          (omega arith, omega arith)

-- what is known of the bytes of a PCM entry
pub record There (window : List ℕ) (base address total : ℕ) (bytes : List ℕ) : Type 0 where
  pub low : address + total < 2 ^ 32
  pub present : present_in (length window) base address total ≡ true
  pub bytes_is : bytes ≡ look_up window base address total

module _ (window : List ℕ) (base address n : ℕ) (bytes : List ℕ) (p : ℕ) (h : p < n) where
  byte_in : (total size k q : ℕ) → There window base (aligned address) total bytes → k < size → p * size + size ≤ total → q ≡ p * size + k
      → get_or (look_up window base ((aligned address + p * size) % 2 ^ 32) size) k 0 ≡ get_or bytes q 0
  byte_in total size k q t l fit e =
      byte window base (aligned address) total (each (length window) base (aligned address) total t.present) t.low size p k q l fit e
      ∙ ap (λ (b : List ℕ). get_or b q 0) (sym t.bytes_is)

  pcm8_by : (stereo : Bool) → There window base (aligned address) (n * size8 stereo) bytes
      → pcm8_at window base address stereo p ≡ pcm8_in bytes stereo p
  pcm8_by true t =
      let left = byte_in (n * 2) 2 0 (p * 2) t (omega arith) (omega arith) (omega arith) in
      let right = byte_in (n * 2) 2 1 (p * 2 + 1) t (omega arith) (omega arith) (omega arith) in
      λ i. stereo_sample (high_byte (left i)) (high_byte (right i))
  pcm8_by false t =
      let value = byte_in (n * 1) 1 0 p t (omega arith) (omega arith) (omega arith) in
      λ i. both (high_byte (value i))

  pcm16_by : (stereo : Bool) → There window base (aligned address) (n * size16 stereo) bytes
      → pcm16_at window base address stereo p ≡ pcm16_in bytes stereo p
  pcm16_by true t =
      let b0 = byte_in (n * 4) 4 0 (p * 4) t (omega arith) (omega arith) (omega arith) in
      let b1 = byte_in (n * 4) 4 1 (p * 4 + 1) t (omega arith) (omega arith) (omega arith) in
      let b2 = byte_in (n * 4) 4 2 (p * 4 + 2) t (omega arith) (omega arith) (omega arith) in
      let b3 = byte_in (n * 4) 4 3 (p * 4 + 2 + 1) t (omega arith) (omega arith) (omega arith) in
      λ i. stereo_sample (signed16 (b1 i * 256 + b0 i)) (signed16 (b3 i * 256 + b2 i))
  pcm16_by false t =
      let b0 = byte_in (n * 2) 2 0 (p * 2) t (omega arith) (omega arith) (omega arith) in
      let b1 = byte_in (n * 2) 2 1 (p * 2 + 1) t (omega arith) (omega arith) (omega arith) in
      λ i. both (signed16 (b1 i * 256 + b0 i))

-- some bytes of an entry are all of them
some_by : (window : List ℕ) (base a total : ℕ) → (l b : Bool) → ltb (a + total) (2 ^ 32) ≡ l → present_in (length window) base a total ≡ b
    → 0 < length (cond (ltb (a + total) (2 ^ 32)) (look_up window base a total) [])
    → There window base a total (cond (ltb (a + total) (2 ^ 32)) (look_up window base a total) [])
some_by window base a total false b l e h = absurd (omega (arith, ap length (cond_no (look_up window base a total) [] l), h))
some_by window base a total true false l e h =
    absurd (omega (arith, ap length (cond_yes (look_up window base a total) [] l), ap length (absent window base a total e), h))
some_by window base a total true true l e h = record {
  low = ltb-true (a + total) (2 ^ 32) l;
  present = e;
  bytes_is = cond_yes (look_up window base a total) [] l;
}

some_there : (window : List ℕ) (base : ℕ) (e : Entry) → 0 < length (entry_bytes window base e)
    → There window base (aligned e.address) (e.length * size_of e) (entry_bytes window base e)
unfolding entry_bytes
some_there window base e h = some_by window base (aligned e.address) (e.length * size_of e) _ _ refl refl h

-- ---- an entry that is ready

module _ (window : List ℕ) (base : ℕ) (lane : List ℤ) (decoded : ℕ) (e : Entry) (bytes : List ℕ) where
  sample_by_lem : (f : Format)
      → (is_adpcm f ≡ false → There window base (aligned e.address) (e.length * size_by f e.stereo) bytes)
      → (is_adpcm f ≡ true → e.length ≤ decoded)
      → (p : ℕ) → p < e.length → samples.sample_by window base lane decoded f e p ≡ sample_by lane bytes f e.stereo p
  sample_by_lem Pcm8 t d p h = pcm8_by window base e.address e.length bytes p h e.stereo (t refl)
  sample_by_lem Pcm16 t d p h = pcm16_by window base e.address e.length bytes p h e.stereo (t refl)
  sample_by_lem Adpcm t d p h = cond_yes (both (get_or lane p (pos 0))) silence (lt-ltb p decoded (omega (arith, d refl)))

  held_by_lem : (f : Format)
      → (is_adpcm f ≡ false → There window base (aligned e.address) (e.length * size_by f e.stereo) bytes)
      → (is_adpcm f ≡ true → e.length ≤ decoded) → decoded ≤ length lane
      → e.length * size_by f e.stereo ≤ held_by lane bytes f
  held_by_lem Pcm8 t d l =
      let u = t refl in
      omega (arith, ap length u.bytes_is, there_long window base (aligned e.address) (e.length * size8 e.stereo) u.present)
  held_by_lem Pcm16 t d l =
      let u = t refl in
      omega (arith, ap length u.bytes_is, there_long window base (aligned e.address) (e.length * size16 e.stereo) u.present)
  held_by_lem Adpcm t d l = omega (arith, d refl)

module _ (window : List ℕ) (base : ℕ) (lane : List ℤ) (t : Track) (bytes : List ℕ) (e : Entry) (fit : t.decoded ≤ length lane)
    (a : AtHand window base t bytes e) where
  there : is_adpcm e.format ≡ false → There window base (aligned e.address) (e.length * size_by e.format e.stereo) bytes
  unfolding is_held size_of
  there f =
      let some = ltb-true 0 (length bytes) (sym (cond_no _ _ f) ∙ a.held) in
      subst (There window base (aligned e.address) (e.length * size_of e)) (sym a.bytes_are)
      (some_there window base e (omega (arith, some, ap length a.bytes_are)))

  decoded_all : is_adpcm e.format ≡ true → e.length ≤ t.decoded
  unfolding is_held
  decoded_all f = leb-true e.length t.decoded (sym (cond_yes _ _ f) ∙ a.held)

  -- all of its samples are held
  pub ready_holds : e.length * size_of e ≤ held_by lane bytes e.format
  unfolding size_of
  ready_holds = held_by_lem window base lane t.decoded e bytes e.format there decoded_all fit

  ready_heard : (p : ℕ) → p < e.length → heard_at window base lane t p ≡ sample_in lane bytes e p
  unfolding heard_at sample_at sample_in
  ready_heard p h =
      let inside : min p (e.length - 1) ≡ p = omega arith in
      ap (λ (o : Option Entry). heard_by window base lane t o p) a.playing
      ∙ ap (sample_at window base lane t.decoded e) inside
      ∙ sample_by_lem window base lane t.decoded e bytes e.format there decoded_all p h

  -- the sample that is produced where two of the entry are left
  pub ready_sound : (c : Cursor) → 1 < c.remaining → 1 < t.length → sound_in lane bytes e t c ≡ sound_of window base lane t c
  unfolding sound_of sound_by
  ready_sound c h l =
      let here = sym (ready_heard (t.length - c.remaining) (omega (arith, a.whole))) in
      let next = sym (ready_heard (t.length - c.remaining + 1) (omega (arith, a.whole))) in
      λ i. cond (t.plain || eq c.fraction +0) (here i) (between_samples (here i) (next i) c.fraction)
