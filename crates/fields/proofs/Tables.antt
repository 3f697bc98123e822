-- What holds of the tables of fields beside the constants that the code has of them: they add up to document 01's sizes, each name stands
-- once, and what is counted off inside a field stays inside it: all computed. Assumes nothing.
use Rattle.std.specs.Prelude.{◌≡◌, ℕ, ◌<◌, true, [], ◌∷◌}
use mathlib.Core.Path.{refl}
use native.Mathlib.Omega.{arith}
use Rattle.fields.specs.Fields.{total, offset_of, size_of, configuration, slot, status, mixer_configuration, gain_at, slot_at}
use Rattle.fields.specs.Tables.{names_of, once, Within}

pub record Tables : Type 0 where
  -- the fields of a configuration, a slot, a status and the mixer's configuration add up to their sizes
  pub totals : total configuration ∷ total slot ∷ total status ∷ total mixer_configuration ∷ [] ≡ 192 ∷ 20 ∷ 12 ∷ 44 ∷ []
  -- in each table each name stands once
  pub names :
      once (names_of configuration) ∷ once (names_of slot) ∷ once (names_of status) ∷ once (names_of mixer_configuration) ∷ []
      ≡ true ∷ true ∷ true ∷ true ∷ []
  -- each of the 12 gains, of 4 bytes, lies in the gains' field
  pub gain :
      (mix channel : ℕ) → mix < 3 → channel < 4
      → Within (gain_at mix channel) 4 (offset_of configuration "GAIN") (size_of configuration "GAIN")
  -- each of the 4 slots lies in the slots' field
  pub slots : (k : ℕ) → k < 4 → Within (slot_at k) (total slot) (offset_of configuration "BUFFERS") (size_of configuration "BUFFERS")

pub tables : Tables
tables = record {
  totals = refl;
  names = refl;
  gain = λ mix channel h g. (omega arith, omega arith);
  slots = λ k h. (omega arith, omega arith);
}
