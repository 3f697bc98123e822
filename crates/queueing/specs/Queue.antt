-- Entries queued behind the others. Assumes nothing: these are definitions.
use Rattle.std.specs.Prelude.{◌+◌, List, [], ◌∷◌, set}
use Rattle.voice.specs.Set.{set_voice_queue, set_voice_queued}
use Rattle.voice.specs.declared.record.Entry.{Entry}
use Rattle.voice.specs.declared.record.Voice.{Voice}

-- an entry queued behind the others
unfoldable pub pushed : Entry → Voice → Voice
pushed e v = set_voice_queued (v.queued + 1) (set_voice_queue (set v.queue v.queued e) v)

unfoldable pub pushed_all : List Entry → Voice → Voice
pushed_all [] v = v
pushed_all (e ∷ es) v = pushed_all es (pushed e v)
