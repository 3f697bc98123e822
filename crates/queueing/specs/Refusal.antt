-- Numbers 20 and 21 of a voice, found from the entries that its configuration would add. Assumes nothing: this is a definition.
use Rattle.std.specs.Prelude.{ℕ, ◌+◌, cond, List, ltb, length}
use Rattle.voice.specs.Blank.{limit}
use Rattle.voice.specs.Long.{any_too_long}
use Rattle.voice.specs.declared.record.Entry.{Entry}

-- Of a queue with so many entries, to which these would be added, and a lane of L samples. "20 comes before 21": 20, "its queue would
-- exceed 64"; 21, "an ADPCM entry it would add is longer than L"; else 0.
unfoldable pub refusal_of : ℕ → List Entry → ℕ → ℕ
refusal_of queued entries L = cond (ltb limit (queued + length entries)) 20 (cond (any_too_long L entries) 21 0)
