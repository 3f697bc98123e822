-- How values stand in bytes, one after the other. Assumes nothing: these are definitions.
use Rattle.std.specs.Prelude.{ℕ, ◌*◌, ◌+◌, ◌/◌, ◌%◌, List, ◌++◌, cond, leb, length, map, take, drop, replicate}
use Rattle.std.specs.Simd.{first_chunks}

-- the first n bytes, or zeros where there are fewer
abbrev pub front_of : ℕ → List ℕ → List ℕ
front_of n bytes = cond (leb n (length bytes)) (take n bytes) (replicate n 0)

-- bytes in parts of n
abbrev pub parts_of : ℕ → List ℕ → List (List ℕ)
parts_of n bytes = first_chunks n (length bytes / n) bytes

-- the values that bytes hold, n bytes each, over the front of a list, of which the length stays
abbrev pub read_over : {X : Type 0} → (List ℕ → X) → ℕ → List ℕ → List X → List X
read_over held n bytes old = map held (take (length old) (parts_of n bytes)) ++ drop (length (parts_of n bytes)) old

-- a sum in which every word and its place count
abbrev pub with_place : ℕ → ℕ → ℕ
with_place total word = (total * 31 % 4294967296 + word) % 4294967296
