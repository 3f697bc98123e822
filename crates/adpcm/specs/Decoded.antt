-- What a decode answers. Assumes nothing: this is a definition.
use Rattle.std.specs.Prelude.{ℕ}
use Rattle.adpcm.specs.declared.History.{History}

-- 0, or 9 where it is refused, and the history after it
pub record Decoded : Type 0 where
  pub number : ℕ
  pub history : History
