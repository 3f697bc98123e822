-- A voice as serving leaves it: "where the mark is off the data hold one fixed blank after serving", and "after serving, places past the
-- count hold one fixed blank entry". Assumes nothing: these are definitions.
use Rattle.std.specs.Prelude.{ℕ, ◌/◌, ◌<◌, ◌≤◌, Bool, true, false, cond, List, ◌≡◌, ltb, Float, get_or}
use Rattle.lists.specs.Tabulate.{tabulate}
use Rattle.filters.specs.declared.state.Filters.{Filters}
use Rattle.filters.specs.Defaults.{default_simple, default_biquad}
use Rattle.voice.specs.declared.record.Entry.{Entry}
use Rattle.voice.specs.declared.record.Voice.{Voice}
use Rattle.voice.specs.Blank.{places, blank_history, blank_entry, blank_gain}
use Rattle.voice.specs.Set.{set_entry_adpcm, set_voice_queue, set_voice_ramp, set_voice_filters, set_voice_playing}

-- an entry: its history is blank where the mark of that is off
unfoldable pub tidy_entry : Entry → Entry
tidy_entry e = cond e.has_adpcm e (set_entry_adpcm blank_history e)

-- an entry under a mark
unfoldable pub tidy_under : Bool → Entry → Entry
tidy_under on e = cond on (tidy_entry e) blank_entry

-- a queue with so many entries: these in their order, and blank entries after them
unfoldable pub tidy_queue : ℕ → List Entry → List Entry
tidy_queue n queue = tabulate (λ i. tidy_under (ltb i n) (get_or queue i blank_entry)) places

-- a number of a ramp under a mark
abbrev pub tidy_gain : Bool → Float → Float
tidy_gain on gain = cond on gain blank_gain

-- the ramps by the marks of the mixes, four numbers to a mix
unfoldable pub tidy_ramp : List Bool → List Float → List Float
tidy_ramp marks ramp = tabulate (λ k. tidy_gain (get_or marks (k / 4) false) (get_or ramp k blank_gain)) 12

unfoldable pub tidy_filters : Filters → Filters
tidy_filters f = record {
  has_simple = f.has_simple;
  simple = cond f.has_simple f.simple default_simple;
  has_biquad = f.has_biquad;
  biquad = cond f.has_biquad f.biquad default_biquad;
}

unfoldable pub tidied : Voice → Voice
tidied v =
    set_voice_playing (tidy_under v.has_playing v.playing)
    (set_voice_filters (tidy_filters v.filters)
    (set_voice_ramp (tidy_ramp v.has_ramp v.ramp) (set_voice_queue (tidy_queue v.queued v.queue) v)))

-- ---- what a tidy voice is

-- an entry whose history is blank where its mark is off
pub record BlankEntry (e : Entry) : Type 0 where
  pub history : e.has_adpcm ≡ false → e.adpcm ≡ blank_history

-- a voice in which every datum under a mark that is off, and every place past the count, is its blank
pub record Blank (v : Voice) : Type 0 where
  pub entries : (k : ℕ) → k < v.queued → BlankEntry (get_or v.queue k blank_entry)
  pub places : (k : ℕ) → v.queued ≤ k → get_or v.queue k blank_entry ≡ blank_entry
  pub ramp : (k : ℕ) → get_or v.has_ramp (k / 4) false ≡ false → get_or v.ramp k blank_gain ≡ blank_gain
  pub simple : v.filters.has_simple ≡ false → v.filters.simple ≡ default_simple
  pub biquad : v.filters.has_biquad ≡ false → v.filters.biquad ≡ default_biquad
  pub silent : v.has_playing ≡ false → v.playing ≡ blank_entry
  pub playing : v.has_playing ≡ true → BlankEntry v.playing
