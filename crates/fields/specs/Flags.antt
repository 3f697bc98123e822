-- The bits of a dirty word. Assumes nothing: this is a definition.
use Rattle.std.specs.Prelude.{ℕ, ◌/◌, ◌%◌, Bool, eqb}

-- the bit of a word that stands for a power of two is set
abbrev pub flagged : ℕ → ℕ → Bool
flagged word bit = eqb (word / bit % 2) 1
