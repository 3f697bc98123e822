-- An input cut after as many bytes as the program's buffer holds is listed as it is whole: where anything is cut off, neither is complete,
-- since the longest that is complete is one byte shorter than the buffer. Assumes nothing.
use mathlib.Core.Path.{◌≡◌, sym, ap, ◌∙◌}
use mathlib.Core.Bool.{false}
use mathlib.Core.List.{List}
use mathlib.Core.Logic.{⊎_elim}
use Prim.Native.Nat.{ℕ, ◌+◌, ◌*◌, ◌<◌}
use native.Mathlib.Omega.{arith}
use lib.ListN.{length, take, length-take, get_or-eq_default}
use lib.Seq.{take_all, length-take-le, get_or-take}
use borrow.Author.Tests.{ne_eqb}
use Rattle.lists.proofs.Bools.{cond_no}
use Rattle.lists.proofs.Walk.{below_or}
use Rattle.listing.specs.Sizes.{header, frame_bytes, input_room}
use Rattle.listing.specs.Listing.{count_in, complete, read_of, tables_of, only_nine, listed}
use Rattle.listing.specs.Laws.{Bytes, ReadListedAlike}

-- the first bytes of bytes are bytes
pub bytes_take : (n : ℕ) (l : List ℕ) → Bytes l → Bytes (take n l)
bytes_take n l b i =
    ⊎_elim (λ h. omega (arith, get_or-take n l i 0 h, b i))
    (λ h. omega (arith, get_or-eq_default (take n l) 0 {n = i} (simp length-take (omega arith))))
    (below_or i n)

incomplete : (input : List ℕ) → complete input ≡ false → listed input ≡ only_nine
unfolding listed
incomplete input e = cond_no (tables_of input) only_nine e

same_count : (input : List ℕ) → count_in (read_of input) ≡ count_in input
same_count input = λ j. get_or-take input_room input 37 0 (omega arith) j * 256 + get_or-take input_room input 36 0 (omega arith) j

pub read_listed : (input : List ℕ) → Bytes (read_of input) → listed (read_of input) ≡ listed input
read_listed input b = ⊎_elim longer (λ h. ap listed (take_all input_room input h)) (below_or input_room (length input))
  where
    longer : input_room < length input → listed (read_of input) ≡ listed input
    longer h = incomplete (read_of input) (ne_eqb _ _ cut_other) ∙ sym (incomplete input (ne_eqb _ _ whole_other))
      where
        cut_other : length (read_of input) ≡ header + frame_bytes (count_in (read_of input)) → ⊥
        cut_other e = omega (arith, length-take-le input_room input (omega arith))

        whole_other : length input ≡ header + frame_bytes (count_in input) → ⊥
        whole_other e = omega (arith, same_count input, b 36, b 37)

pub read_listed_alike : ReadListedAlike
read_listed_alike input b = read_listed input (bytes_take input_room input b)
