-- What a sample through the filters of a voice comes out as. Assumes nothing: this is a definition.
use Rattle.std.specs.Prelude.{ℤ}
use Rattle.filters.specs.declared.state.Filters.{Filters}

-- the value, and the filters after it
pub record Passed : Type 0 where
  pub filters : Filters
  pub value : ℤ
