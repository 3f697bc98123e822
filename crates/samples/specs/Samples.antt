-- One sample of an entry, left and right: "PCM is read as it plays, sample by sample, addresses modulo 2^32, absent samples 0", and ADPCM
-- from the lane. Assumes nothing: these are definitions.
use Rattle.std.specs.Prelude.{Bool, cond, List, ℕ, ◌+◌, ◌*◌, ◌%◌, ◌^◌, ltb, ℤ, pos, get_or}
use Rattle.numbers.specs.Wrap.{signed16}
use Rattle.little.specs.Little.{at16}
use Rattle.window.specs.Window.{look_up}
use Rattle.dequeue.specs.Dequeue.{aligned}
use Rattle.voice.specs.declared.record.Entry.{Entry}
use Rattle.voice.specs.declared.record.Format.{Format}
use Rattle.voice.specs.declared.record.Format.TheVariants.{Pcm8, Pcm16, Adpcm}
use Rattle.samples.specs.declared.Sample.{Sample}

abbrev pub stereo_sample : ℤ → ℤ → Sample
stereo_sample left right = record { left = left; right = right }

-- a mono sample sounds on both sides
abbrev pub both : ℤ → Sample
both value = stereo_sample value value

abbrev pub silence : Sample
silence = both (pos 0)

-- ---- PCM, from the bytes that were looked up: none where one is absent, and then each value is 0

-- a byte is the upper half of a value
abbrev pub high_byte : ℕ → ℤ
high_byte byte = signed16 (byte * 256)

abbrev pub mono_of8 : List ℕ → Sample
mono_of8 bytes = both (high_byte (get_or bytes 0 0))

abbrev pub stereo_of8 : List ℕ → Sample
stereo_of8 bytes = stereo_sample (high_byte (get_or bytes 0 0)) (high_byte (get_or bytes 1 0))

abbrev pub mono_of16 : List ℕ → Sample
mono_of16 bytes = both (signed16 (at16 bytes 0))

abbrev pub stereo_of16 : List ℕ → Sample
stereo_of16 bytes = stereo_sample (signed16 (at16 bytes 0)) (signed16 (at16 bytes 2))

module _ (window : List ℕ) (base address : ℕ) where
  -- the bytes of the sample at an index, each of so many: "addresses modulo 2^32", and "Address low two bits are cleared". One look-up
  -- serves both channels
  abbrev pub bytes_at : ℕ → ℕ → List ℕ
  bytes_at size index = look_up window base ((aligned address + index * size) % 2 ^ 32) size

  abbrev pub pcm8_at : Bool → ℕ → Sample
  pcm8_at stereo index = cond stereo (stereo_of8 (bytes_at 2 index)) (mono_of8 (bytes_at 1 index))

  abbrev pub pcm16_at : Bool → ℕ → Sample
  pcm16_at stereo index = cond stereo (stereo_of16 (bytes_at 4 index)) (mono_of16 (bytes_at 2 index))

-- ---- ADPCM: "A lengthened ADPCM entry plays 0 past its decoded count"
abbrev pub decoded_at : List ℤ → ℕ → ℕ → Sample
decoded_at lane decoded index = cond (ltb index decoded) (both (get_or lane index (pos 0))) silence

-- the sample at an index of an entry, by its format
abbrev pub sample_by : List ℕ → ℕ → List ℤ → ℕ → Format → Entry → ℕ → Sample
sample_by window base lane decoded Pcm8 e index = pcm8_at window base e.address e.stereo index
sample_by window base lane decoded Pcm16 e index = pcm16_at window base e.address e.stereo index
sample_by window base lane decoded Adpcm e index = decoded_at lane decoded index

unfoldable pub sample_at : List ℕ → ℕ → List ℤ → ℕ → Entry → ℕ → Sample
sample_at window base lane decoded e index = sample_by window base lane decoded e.format e index
