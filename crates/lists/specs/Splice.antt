-- A part of a list, and a list with elements stored over a part of it. Assumes nothing: these are definitions.
use Rattle.std.specs.Prelude.{ℕ, List, take, drop}
use Rattle.std.proofs.lemmas.List.Edits.{sets}

-- the n elements of l from index a on
abbrev pub part : {A : Type 0} → ℕ → ℕ → List A → List A
part a n l = take n (drop a l)

-- l with the elements of new stored one by one from index a on: what would fall past the end is not stored, so a list keeps its length
unfoldable pub splice : {A : Type 0} → List A → ℕ → List A → List A
splice l a new = sets l a new
