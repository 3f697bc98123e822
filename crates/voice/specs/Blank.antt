-- What stands where something is off or empty, and a voice as it is before anything is set. Assumes nothing: these are definitions.
use Rattle.std.specs.Prelude.{ℕ, false, Float, pos, replicate}
use Rattle.numbers.specs.Literals.{+0, +1}
use Rattle.adpcm.specs.declared.History.{History}
use Rattle.filters.specs.Defaults.{no_filters}
use Rattle.voice.specs.declared.record.Entry.{Entry}
use Rattle.voice.specs.declared.record.Format.TheVariants.{Pcm8, Pcm16}
use Rattle.voice.specs.declared.record.Interpolation.TheVariants.{Polyphase}
use Rattle.voice.specs.declared.record.Voice.{Voice}

-- "its 64-place queue": how many entries a record has room for
abbrev pub places : ℕ
places = 64

-- how many of them may be queued, which the numbers 7 and 20 ask: "queue count over 64", "its queue would exceed 64"
abbrev pub limit : ℕ
limit = 64

abbrev pub blank_history : History
blank_history = record { yn1 = pos 0; yn2 = pos 0 }

-- "one fixed blank entry"
unfoldable pub blank_entry : Entry
blank_entry =
    record {
      address = 0;
      length = 0;
      format = Pcm8;
      stereo = false;
      looping = false;
      id = 0;
      has_adpcm = false;
      adpcm = blank_history;
      from_queue = false;
      play_position = 0;
      has_played = false;
    }

-- a number of a ramp
abbrev pub blank_gain : Float
blank_gain = +0

-- the source's default voice: every mark is off
unfoldable pub default_voice : Voice
default_voice =
    record {
      enabled = false;
      sync_count = 0;
      rate = +1;
      format = Pcm16;
      interpolation = Polyphase;
      stereo = false;
      filters = no_filters;
      gain = replicate 12 +0;
      has_ramp = replicate 3 false;
      ramp = replicate 12 blank_gain;
      coefficients = replicate 16 (pos 0);
      history = blank_history;
      queue = replicate places blank_entry;
      queued = 0;
      has_playing = false;
      playing = blank_entry;
      decoded = 0;
      remaining = 0;
      length = 0;
      fraction = +0;
      current_buffer_id = 0;
      last_buffer_id = 0;
      buffer_update = false;
      position = 0;
      frame = replicate 320 (pos 0);
      ran_out_at_frame_end = false;
    }
