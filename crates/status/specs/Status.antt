-- A voice's "12 status bytes". Assumes nothing: these are definitions.
use Rattle.std.specs.Prelude.{ℕ, Bool, cond, List, [], ◌∷◌, ◌++◌}
use Rattle.little.specs.Little.{bytes16, dsp32_bytes}
use Rattle.voice.specs.declared.record.Voice.{Voice}

-- a mark as a byte
abbrev pub bit : Bool → ℕ
bit mark = cond mark 1 0

-- The status of a voice, by the table of its fields: whether it is enabled, and whether the entry that plays changed; the sync count; the
-- position, a dsp32; the ids of the entry that plays and of the last one.
unfoldable pub status_of : Voice → List ℕ
status_of v =
    (bit v.enabled ∷ bit v.buffer_update ∷ [])
    ++ (bytes16 v.sync_count
    ++ (dsp32_bytes v.position ++ (bytes16 v.current_buffer_id ++ bytes16 v.last_buffer_id)))
