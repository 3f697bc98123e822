-- The entries that a configuration would add to the queue, read with a format and a number of channels. Assumes nothing: these are
-- definitions.
use Rattle.std.specs.Prelude.{ℕ, zero, suc, ◌+◌, ◌/◌, ◌%◌, ◌^◌, Bool, true, false, not, ◌&&◌, cond, List, [], ◌∷◌, ◌++◌, eqb, get_or}
use Rattle.numbers.specs.Wrap.{signed16}
use Rattle.little.specs.Little.{at16, at_dsp32}
use Rattle.fields.specs.Fields.{offset_of, configuration, slot, slot_at}
use Rattle.adpcm.specs.declared.History.{History}
use Rattle.voice.specs.Blank.{blank_history}
use Rattle.voice.specs.declared.record.Entry.{Entry}
use Rattle.voice.specs.declared.record.Format.{Format}
use Rattle.settings.specs.Dirty.{flag, BUFFER_QUEUE, PLAY_POSITION, EMBEDDED_BUFFER}

-- two signed halves at a place, or the blank where the mark beside them is off
abbrev pub history_at : Bool → List ℕ → ℕ → History
history_at mark bytes at = cond mark (record { yn1 = signed16 (at16 bytes at); yn2 = signed16 (at16 bytes (at + 2)) }) blank_history

-- the play position: read only if flagged
abbrev pub position_in : List ℕ → ℕ
position_in bytes = cond (flag bytes PLAY_POSITION) (at_dsp32 bytes (offset_of configuration "PLAY_POSITION")) 0

-- "slots 0 to 3"
abbrev pub slot_count : ℕ
slot_count = 4

module _ (bytes : List ℕ) where
  -- bits 0 and 1 of FLAGS2: a history is given, the entry loops
  abbrev has_history : Bool
  has_history = eqb (at16 bytes (offset_of configuration "FLAGS2") % 2) 1

  -- slot k's history mark: any byte but 0
  abbrev slot_has_history : ℕ → Bool
  slot_has_history k = not (eqb (get_or bytes (slot_at k + offset_of slot "HAS_ADPCM") 0) 0)

  abbrev pub slot_length : ℕ → ℕ
  slot_length k = at_dsp32 bytes (slot_at k + offset_of slot "LENGTH")

  -- slot k adds an entry where its bit of the slot mask is set: "A slot of length 0 is skipped"
  abbrev pub slot_adds : ℕ → Bool
  slot_adds k = eqb (at16 bytes (offset_of configuration "BUFFERS_DIRTY") / 2 ^ k % 2) 1 && not (eqb (slot_length k) 0)

module _ (bytes : List ℕ) (format : Format) (stereo : Bool) where
  -- the embedded entry, which alone has a play position
  unfoldable pub embedded : Entry
  embedded = record {
    address = at_dsp32 bytes (offset_of configuration "ADDRESS");
    length = at_dsp32 bytes (offset_of configuration "LENGTH");
    format = format;
    stereo = stereo;
    looping = eqb (at16 bytes (offset_of configuration "FLAGS2") / 2 % 2) 1;
    id = at16 bytes (offset_of configuration "BUFFER_ID");
    has_adpcm = has_history bytes;
    adpcm = history_at (has_history bytes) bytes (offset_of configuration "ADPCM_YN");
    from_queue = false;
    play_position = position_in bytes;
    has_played = false;
  }

  -- the entry of slot k
  unfoldable pub slot_entry : ℕ → Entry
  slot_entry k = record {
    address = at_dsp32 bytes (slot_at k + offset_of slot "ADDRESS");
    length = slot_length bytes k;
    format = format;
    stereo = stereo;
    looping = not (eqb (get_or bytes (slot_at k + offset_of slot "LOOPING") 0) 0);
    id = at16 bytes (slot_at k + offset_of slot "BUFFER_ID");
    has_adpcm = slot_has_history bytes k;
    adpcm = history_at (slot_has_history bytes k) bytes (slot_at k + offset_of slot "ADPCM_YN");
    from_queue = true;
    play_position = 0;
    has_played = false;
  }

  -- the embedded entry, where it is flagged: "an embedded entry of length 0 is not" skipped
  abbrev pub embedded_entries : List Entry
  embedded_entries = cond (flag bytes EMBEDDED_BUFFER) (embedded ∷ []) []

  -- the entry of slot k, where the slot adds one
  abbrev pub slot_entries : ℕ → List Entry
  slot_entries k = cond (slot_adds bytes k) (slot_entry k ∷ []) []

  -- the entries of the first k slots
  abbrev pub slots_entries : ℕ → List Entry
  slots_entries zero = []
  slots_entries (suc k) = slots_entries k ++ slot_entries k

  -- "embedded entry, slots 0 to 3": "all entries the flags would add"
  unfoldable pub added : List Entry
  added = embedded_entries ++ cond (flag bytes BUFFER_QUEUE) (slots_entries slot_count) []
