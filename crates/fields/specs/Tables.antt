-- What is asked of the tables of fields beside the constants that the code has of them. Assumes nothing: these are definitions; the
-- statement that cites them stands in proofs/Tables.antt, with its proof.
use Rattle.std.specs.Prelude.{ℕ, ◌+◌, ◌≤◌, Bool, true, false, not, ◌&&◌, ◌||◌, List, [], ◌∷◌}
use Prim.Native.String.{String}
use lib.Text.{eqt}
use Rattle.fields.specs.Fields.{Entry, field, gap, padding}

-- the names of a table's fields and gaps
abbrev pub names_of : List Entry → List String
names_of [] = []
names_of (field name n ∷ es) = name ∷ names_of es
names_of (gap name n ∷ es) = name ∷ names_of es
names_of (padding n ∷ es) = names_of es

-- a name stands in a list of names
abbrev pub stands : String → List String → Bool
stands name [] = false
stands name (other ∷ others) = eqt name other || stands name others

-- each name of a list stands there once
abbrev pub once : List String → Bool
once [] = true
once (name ∷ names) = not (stands name names) && once names

-- the `count` bytes at an offset lie in the field of `size` bytes that begins at `from`
abbrev pub Within : ℕ → ℕ → ℕ → ℕ → Type 0
Within at count from size = (from ≤ at) × (at + count ≤ from + size)
