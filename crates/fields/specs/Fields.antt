-- The fields of the structures in a region, as tables: in order, each with its name and its size in bytes. Offsets are computed from the
-- sizes. The names of what the source does not read are recalled from public descriptions (docs/DIFFERENCES.md). Assumes nothing: these are
-- definitions.
use Rattle.std.specs.Prelude.{ℕ, ◌+◌, ◌*◌, Bool, true, false, ◌||◌, cond, List, [], ◌∷◌}
use Prim.Native.String.{String}
use lib.Text.{eqt}

-- a field with its name; a gap, which is a field that the source does not read; or bytes that have no name
pub data Entry : Type 0 where
  field : String → ℕ → Entry
  gap : String → ℕ → Entry
  padding : ℕ → Entry

-- how many bytes an entry of a table takes
abbrev pub size : Entry → ℕ
size (field name n) = n
size (gap name n) = n
size (padding n) = n

-- how many bytes a table takes
abbrev pub total : List Entry → ℕ
total [] = 0
total (e ∷ es) = size e + total es

-- an entry is the field of a name
abbrev pub is_field : String → Entry → Bool
is_field name (field other n) = eqt other name
is_field name (gap other n) = false
is_field name (padding n) = false

-- the field of a name stands in a table
abbrev pub has : List Entry → String → Bool
has [] name = false
has (e ∷ es) name = is_field name e || has es name

-- A number where a name is known; where it is not, something that is no number. So a misspelt name is refused wherever a number is asked
-- for.
abbrev pub Known : Bool → Type 0
Known true = ℕ
Known false = Unit {0}

abbrev known : (b : Bool) → ℕ → Known b
known true n = n
known false n = tt

-- how many bytes stand before the field of a name
abbrev before : List Entry → String → ℕ
before [] name = 0
before (e ∷ es) name = cond (is_field name e) 0 (size e + before es name)

-- how many bytes the field of a name takes
abbrev taken : List Entry → String → ℕ
taken [] name = 0
taken (e ∷ es) name = cond (is_field name e) (size e) (taken es name)

-- both, of a name that stands in the table
abbrev pub offset_of : (es : List Entry) (name : String) → Known (has es name)
offset_of es name = known (has es name) (before es name)

abbrev pub size_of : (es : List Entry) (name : String) → Known (has es name)
size_of es name = known (has es name) (taken es name)

-- a slot of a voice's queue: address and length are dsp32
abbrev pub slot : List Entry
slot =
    field "ADDRESS" 4
    ∷ field "LENGTH" 4
    ∷ gap "ADPCM_PREDICTOR_SCALE" 2
    ∷ field "ADPCM_YN" (2 * 2)
    ∷ field "HAS_ADPCM" 1
    ∷ field "LOOPING" 1
    ∷ field "BUFFER_ID" 2
    ∷ padding 2
    ∷ []

-- A voice's configuration: 12 gains, b0 and a1 of the simple filter, a2, a1, b2, b1 and b0 of the biquad, 4 slots; play position, address
-- and length are dsp32.
abbrev pub configuration : List Entry
configuration =
    field "DIRTY" 4
    ∷ field "GAIN" (12 * 4)
    ∷ field "RATE_MULTIPLIER" 4
    ∷ field "INTERPOLATION" 1
    ∷ padding 1
    ∷ field "FILTERS_ENABLED" 2
    ∷ field "SIMPLE_FILTER" (2 * 2)
    ∷ field "BIQUAD_FILTER" (5 * 2)
    ∷ field "BUFFERS_DIRTY" 2
    ∷ field "BUFFERS" (4 * total slot)
    ∷ gap "LOOP_RELATED" 4
    ∷ field "ENABLE" 1
    ∷ padding 1
    ∷ field "SYNC_COUNT" 2
    ∷ field "PLAY_POSITION" 4
    ∷ padding 4
    ∷ field "ADDRESS" 4
    ∷ field "LENGTH" 4
    ∷ field "FLAGS1" 2
    ∷ gap "ADPCM_PREDICTOR_SCALE" 2
    ∷ field "ADPCM_YN" (2 * 2)
    ∷ field "FLAGS2" 2
    ∷ field "BUFFER_ID" 2
    ∷ []

-- a voice's status: the position is a dsp32
abbrev pub status : List Entry
status =
    field "ENABLED" 1
    ∷ field "BUFFER_UPDATE" 1
    ∷ field "SYNC_COUNT" 2
    ∷ field "POSITION" 4
    ∷ field "CURRENT_BUFFER_ID" 2
    ∷ field "LAST_BUFFER_ID" 2
    ∷ []

-- the mixer's configuration: one return volume and one switch for each of the two aux buses
abbrev pub mixer_configuration : List Entry
mixer_configuration =
    field "DIRTY" 4
    ∷ field "MASTER_VOLUME" 4
    ∷ field "AUX_RETURN_VOLUME" (2 * 4)
    ∷ padding 6
    ∷ field "OUTPUT_FORMAT" 2
    ∷ gap "CLIPPING_MODE" 2
    ∷ gap "HEADPHONES_CONNECTED" 2
    ∷ gap "SURROUND_DEPTH" 2
    ∷ gap "SURROUND_SPEAKER_POSITION" 2
    ∷ padding 2
    ∷ gap "REAR_RATIO" 2
    ∷ padding 4
    ∷ field "AUX_BUS_ENABLE" (2 * 2)
    ∷ []

-- where the gain of a channel in a mix stands in a configuration
abbrev pub gain_at : ℕ → ℕ → ℕ
gain_at mix channel = offset_of configuration "GAIN" + (mix * 4 + channel) * 4

-- where a slot stands in a configuration
abbrev pub slot_at : ℕ → ℕ
slot_at k = offset_of configuration "BUFFERS" + k * total slot
