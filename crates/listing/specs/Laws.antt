-- What holds of every listing. Assumes nothing: these are statements.
use Rattle.std.specs.Prelude.{ℕ, ◌<◌, List, ◌≡◌, get_or}
use Rattle.listing.specs.Listing.{read_of, listed}

-- a list of bytes
abbrev pub Bytes : List ℕ → Type 0
Bytes input = (i : ℕ) → get_or input i 0 < 256

-- what the program does not read of an input changes nothing of its listing
abbrev pub ReadListedAlike : Type 0
ReadListedAlike = (input : List ℕ) → Bytes input → listed (read_of input) ≡ listed input
