-- All that is lent to a call. Assumes nothing: this is a definition.
use Rattle.std.specs.Prelude.{ℕ, List, ℤ}
use Rattle.voice.specs.declared.record.Voice.{Voice}
use Rattle.stems.specs.Memory.{Lent}

abbrev pub lent : List ℕ → List ℕ → List ℕ → List Voice → List ℤ → List ℤ → Lent
lent region0 region1 window voices lanes mixes = record {
  memory = record { region0 = region0; region1 = region1; window = window; records = voices; lanes = lanes };
  mixes = mixes;
}
