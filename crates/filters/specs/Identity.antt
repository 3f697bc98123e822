-- "Defaults are identities", as a statement. Assumes nothing: these are definitions; `defaults_are_identities` of proofs/Identity.antt
-- proves it.
use Rattle.std.specs.Prelude.{◌≡◌, List, ℕ, ◌<◌, ℤ, pos, length, get_or}
use Rattle.std.specs.Int.{w16}
use Rattle.std.proofs.Common.{SFits}
use Rattle.filters.specs.declared.state.Filters.{Filters}
use Rattle.filters.specs.Defaults.{default_simple, default_biquad}
use Rattle.filters.specs.Process.{passed_from}

-- both filters have the default coefficients; their marks and their state are any
pub record Default (f : Filters) : Type 0 where
  pub b0 : f.simple.b0 ≡ default_simple.b0
  pub a1 : f.simple.a1 ≡ default_simple.a1
  pub b : f.biquad.b ≡ default_biquad.b
  pub a : f.biquad.a ≡ default_biquad.a

-- each sample has 16 bits
abbrev pub AllFit : List ℤ → Type 0
AllFit samples = (i : ℕ) → i < length samples → SFits w16 (get_or samples i (pos 0))

-- such filters give such samples themselves
abbrev pub DefaultsAreIdentities : Type 0
DefaultsAreIdentities =
    (channel : ℕ) (f : Filters) (samples : List ℤ) → Default f → AllFit samples → passed_from channel f samples ≡ samples
