-- How long what a voice is given must be, which the calls' code shows and their contracts need not say. Inner definitions: nobody has to
-- believe them. Assumes nothing: these are definitions.
use Rattle.std.specs.Prelude.{◌≡◌, ℕ, ◌<◌, Bool, length}
use Rattle.fields.specs.Fields.{configuration, status, total}
use Rattle.voice_frame.specs.VoiceFrame.{Answer, served, refused}
use Rattle.stems.specs.declared.Fixed.{Fixed}
use Rattle.stems.specs.Memory.{VOICES, Memory, lane_length}
use Rattle.stems.specs.Call.{answer}

-- what a served voice is given is as long as its places: a lane of L samples, and the bytes of a configuration and of a status
unfoldable pub LongAs : ℕ → Answer → Type 0
LongAs L (served g) =
    (length g.lane ≡ L) × (length g.configuration ≡ total configuration) × (length g.status ≡ total status)
LongAs L (refused n) = Unit {0}

-- and so of every voice in this memory
abbrev pub Long : Fixed → Bool → Memory → Type 0
Long fx second m = (v : ℕ) → v < VOICES → LongAs (lane_length (length m.lanes)) (answer fx second v m)
