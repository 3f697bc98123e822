-- What only the contracts of inner functions cite: room for the mixer's places, and what is known of an accepted call. Assumes nothing:
-- these are definitions.
use Rattle.std.specs.Prelude.{ℕ, ◌+◌, ◌≤◌, ◌≡◌, List, ℤ}
use Rattle.layout.specs.declared.Layout.{Layout}
use Rattle.region.specs.Choice.{number_of_region}
use Rattle.region.specs.declared.Region.{Region}
use Rattle.mix_bytes.specs.Sizes.{final_bytes, intermediate_bytes}
use Rattle.mixer_state.specs.Configuration.{configuration_bytes}

-- the places that the mixer uses lie within regions of so many bytes
pub record Roomy (l : Layout) (n : ℕ) : Type 0 where
  pub configuration : l.mixer_configuration + configuration_bytes ≤ n
  pub final : l.final_samples + final_bytes ≤ n
  pub intermediate : l.intermediate_samples + intermediate_bytes ≤ n

-- what is known of an accepted call, and of its mixes and the region to be read
pub record Accepted (first second : ℕ) (l : Layout) (given : List ℤ) (which : ℕ) (mixes : List ℤ) (region : Region) : Type 0 where
  pub first_room : Roomy l first
  pub second_room : Roomy l second
  pub whole : mixes ≡ given
  pub read : number_of_region region ≡ which
