-- What the contracts of the inner functions cite besides. Assumes nothing: these are definitions.
use Rattle.std.specs.Prelude.{ℕ, ◌+◌, ◌≡◌, true, List, length, ℤ}
use Rattle.lists.specs.Splice.{splice}
use Rattle.adpcm.specs.declared.History.{History}
use Rattle.listing.specs.Listing.{complete, samples_in, last_history_in}

-- `text` was put into `old` from the place `at` on, which made it `new`, and `next` is the place after it
pub record Put (old : List ℕ) (at : ℕ) (text new : List ℕ) (next : ℕ) : Type 0 where
  pub stored : new ≡ splice old at text
  pub after : next ≡ at + length text

-- a complete input was decoded, to these samples and the history after them
pub record DecodesTo (input : List ℕ) (samples : List ℤ) (last : History) : Type 0 where
  pub whole : complete input ≡ true
  pub made : samples ≡ samples_in input
  pub after : last ≡ last_history_in input
