-- An entry that leaves a queue: "Entries keep their order". Assumes nothing: these are definitions, and a statement that
-- proofs/Removal.antt proves.
use Rattle.std.specs.Prelude.{◌≡◌, List, [], ◌∷◌, ◌++◌, ℕ, suc, ◌-◌, ◌≤◌, ◌<◌, length, take, drop}
use Rattle.voice.specs.Blank.{blank_entry}
use Rattle.voice.specs.Malformed.{queued_in}
use Rattle.voice.specs.Set.{set_voice_queue, set_voice_queued}
use Rattle.voice.specs.declared.record.Entry.{Entry}
use Rattle.voice.specs.declared.record.Voice.{Voice}

-- places without the one at an index: those behind it move up, and the last is blank
unfoldable pub without : ℕ → List Entry → List Entry
without place queue = take place queue ++ (drop (suc place) queue ++ (blank_entry ∷ []))

-- a record without the entry at a place
unfoldable pub removed : ℕ → Voice → Voice
removed place v = set_voice_queued (v.queued - 1) (set_voice_queue (without place v.queue) v)

-- Of all records with places for what is queued: the entries after a removal are those before the place and those behind it, in their
-- order.
abbrev pub KeepsOrder : Type 0
KeepsOrder =
    (v : Voice) (place : ℕ)
    → place < v.queued
    → v.queued ≤ length v.queue
    → queued_in (removed place v) ≡ take place (queued_in v) ++ drop (suc place) (queued_in v)
