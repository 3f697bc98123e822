-- An ADPCM entry that does not fit a lane of L samples, which the numbers 7 and 21 ask. Assumes nothing: these are definitions.
use Rattle.std.specs.Prelude.{ℕ, Bool, true, false, ◌&&◌, List, ltb}
use Rattle.lists.specs.Some.{some}
use Rattle.voice.specs.declared.record.Entry.{Entry}
use Rattle.voice.specs.declared.record.Format.{Format}
use Rattle.voice.specs.declared.record.Format.TheVariants.{Pcm8, Pcm16, Adpcm}

abbrev pub is_adpcm : Format → Bool
is_adpcm Pcm8 = false
is_adpcm Pcm16 = false
is_adpcm Adpcm = true

-- an "ADPCM entry longer than L"
unfoldable pub too_long : ℕ → Entry → Bool
too_long L e = is_adpcm e.format && ltb L e.length

-- one of a list is
abbrev pub any_too_long : ℕ → List Entry → Bool
any_too_long L entries = some (too_long L) entries
