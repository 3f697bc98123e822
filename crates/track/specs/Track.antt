-- The sample that a voice produces at a place of the entry being played. Assumes nothing: these are definitions.
use Rattle.std.specs.Prelude.{Bool, true, false, ◌||◌, cond, List, ℕ, ◌+◌, ◌-◌, min, Float, ℤ, Option, None, Some}
use Rattle.std.specs.Float.Ieee.{eq}
use Rattle.numbers.specs.Literals.{+0}
use Rattle.mixing.specs.Interpolate.{interpolate}
use Rattle.steps.specs.declared.step.Cursor.{Cursor}
use Rattle.voice.specs.declared.record.Interpolation.{Interpolation}
use Rattle.voice.specs.declared.record.Interpolation.TheVariants as interpolation
use Rattle.voice.specs.declared.record.Entry.{Entry}
use Rattle.voice.specs.declared.record.Voice.{Voice}
use Rattle.samples.specs.Samples.{stereo_sample, silence, sample_at}
use Rattle.samples.specs.declared.Sample.{Sample}
use Rattle.track.specs.declared.Track.{Track}

-- samples are taken as they are; "Polyphase plays as linear"
abbrev pub is_plain : Interpolation → Bool
is_plain interpolation.Polyphase = false
is_plain interpolation.Linear = false
is_plain interpolation.None = true

-- of a record, what is fixed while its entry plays
abbrev pub track_of : Voice → Track
track_of v = record {
  playing = cond v.has_playing (Some v.playing) None;
  length = v.length;
  decoded = v.decoded;
  rate = v.rate;
  plain = is_plain v.interpolation;
}

-- and where playing is in it
abbrev pub cursor_of : Voice → Cursor
cursor_of v = record { remaining = v.remaining; fraction = v.fraction }

-- the sample a fraction of the way from one to the next, on each side
unfoldable pub between_samples : Sample → Sample → Float → Sample
between_samples a b fraction =
    stereo_sample (interpolate a.left b.left fraction) (interpolate a.right b.right fraction)

module _ (window : List ℕ) (base : ℕ) (lane : List ℤ) (t : Track) where
  -- The sample at a place of the entry, and past its end its last: so an entry "begun there at its end" gives its last, and an entry of
  -- length 0 its first. "No entry playing gives 0"
  abbrev pub heard_by : Option Entry → ℕ → Sample
  heard_by None place = silence
  heard_by (Some e) place = sample_at window base lane t.decoded e (min place (e.length - 1))

  unfoldable pub heard_at : ℕ → Sample
  heard_at place = heard_by t.playing place

  -- how much of the entry was played: by the record's length, not the entry's own
  abbrev pub place_of : Cursor → ℕ
  place_of c = t.length - c.remaining

  -- the sample there, or with interpolation and a fraction other than 0 the one between it and the next
  unfoldable pub sound_of : Cursor → Sample
  sound_of c =
      cond (t.plain || eq c.fraction +0) (heard_at (place_of c))
      (between_samples (heard_at (place_of c)) (heard_at (place_of c + 1)) c.fraction)
