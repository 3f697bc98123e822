-- What a voice's frame keeps and leaves where it is served, and with which numbers it is refused. Assumes nothing: these are statements.
use Rattle.std.specs.Prelude.{◌≡◌, true, false, ◌⊎◌, ℕ, length, replicate}
use Rattle.lists.specs.Some.{every}
use Rattle.numbers.specs.Sizes.{MIXES}
use Rattle.fields.specs.Fields.{configuration, status, total}
use Rattle.voice.specs.Malformed.{malformed}
use Rattle.voice.specs.Range.{is_byte, signed, in_range, sized}
use Rattle.voice.specs.Tidy.{Blank}
use Rattle.voice.specs.declared.record.Voice.{Voice}
use Rattle.settings.specs.Steps.{coefficient_bytes}
use Rattle.voice_frame.specs.VoiceFrame.{Fed, Given, served, refused, voice_frame}

-- ---- what a served frame keeps

-- A frame is fed what it asks for: a record that is not "malformed", with its arrays and with numbers of their types, samples in the lane,
-- and bytes, as many as a configuration and the coefficients have.
pub record Right (f : Fed) : Type 0 where
  pub formed : malformed (length f.lane) f.voice ≡ false
  pub arrays : sized f.voice ≡ true
  pub range : in_range f.voice ≡ true
  pub lane_samples : every (signed 16) f.lane ≡ true
  pub configuration_bytes : every is_byte f.configuration ≡ true
  pub configuration_length : length f.configuration ≡ total configuration
  pub coefficients_bytes : every is_byte f.coefficients ≡ true
  pub coefficients_length : length f.coefficients ≡ coefficient_bytes
  pub window_bytes : every is_byte f.window ≡ true

-- It gives such a record for the same lane, a lane and a configuration as long as they were, the bytes of a status, and a signed 32-bit
-- number for each mix value.
pub record Kept (f : Fed) (g : Given) : Type 0 where
  pub formed : malformed (length f.lane) g.voice ≡ false
  pub arrays : sized g.voice ≡ true
  pub range : in_range g.voice ≡ true
  pub lane_samples : every (signed 16) g.lane ≡ true
  pub lane_length : length g.lane ≡ length f.lane
  pub configuration_bytes : every is_byte g.configuration ≡ true
  pub configuration_length : length g.configuration ≡ length f.configuration
  pub status_bytes : every is_byte g.status ≡ true
  pub status_length : length g.status ≡ total status
  pub parts_numbers : every (signed 32) g.parts ≡ true
  pub parts_length : length g.parts ≡ MIXES

abbrev pub FrameKept : Type 0
FrameKept = (f : Fed) → Right f → (g : Given) → voice_frame f ≡ served g → Kept f g

-- ---- what a served frame leaves

-- "where the mark is off the data hold one fixed blank after serving", "places past the count hold one fixed blank entry"; no mark of a
-- ramp is on, since "Ramps are dropped also for disabled voices", and the update mark is off
pub record Left (v : Voice) : Type 0 where
  pub blank : Blank v
  pub no_ramp : v.has_ramp ≡ replicate 3 false
  pub no_update : v.buffer_update ≡ false

abbrev pub FrameBlank : Type 0
FrameBlank = (f : Fed) (g : Given) → voice_frame f ≡ served g → Left g.voice

-- ---- the numbers of one voice: 20 and 21 alone

abbrev pub RefusedNumbers : Type 0
RefusedNumbers = (f : Fed) (n : ℕ) → voice_frame f ≡ refused n → (n ≡ 20) ⊎ (n ≡ 21)
