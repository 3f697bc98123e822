-- What a contract sees of the list of entries that a configuration adds. Assumes nothing: these are definitions.
use Rattle.std.specs.Prelude.{ℕ, List}
use Rattle.voice.specs.declared.record.Entry.{Entry}

-- an embedded entry and four slots
abbrev pub at_most : ℕ
at_most = 5

-- the entries, and what stands in the places behind them, of which no clause says anything
pub record Listed : Type 0 where
  pub items : List Entry
  pub spare : List Entry
