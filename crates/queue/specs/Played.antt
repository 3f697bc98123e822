-- The mark of an entry that was played, which a looping entry gets when it is dequeued. Assumes nothing: these are definitions.
use Rattle.std.specs.Prelude.{Bool, true}
use Rattle.voice.specs.Set.{set_entry_has_played}
use Rattle.voice.specs.declared.record.Entry.{Entry}

abbrev pub was_played : Entry → Bool
was_played e = e.has_played

abbrev pub mark_played : Entry → Entry
mark_played e = set_entry_has_played true e
