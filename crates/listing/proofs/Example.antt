-- Document 01's worked listing, byte for byte, by computing the definitions. Assumes nothing.
use mathlib.Core.Path.{◌≡◌, refl}
use mathlib.Core.List.{List, ◌∷◌, ◌++◌}
use Prim.Native.Nat.{ℕ}
use lib.ListN.{replicate}
use Rattle.adpcm.specs.Code.{sum_of}
use Rattle.adpcm.specs.Adpcm.{sample_of}
use Rattle.listing.specs.Text.{ascii, decimal}
use Rattle.listing.specs.Listing.{coefficients_in, samples_in, last_history_in, listed}

-- the fourth starred case: coefficients and history 0, count 3, frame 00 1F 70 and zeros
abbrev input : List ℕ
input = replicate 36 0 ++ (3 ∷ 0 ∷ 0 ∷ 31 ∷ 112 ∷ replicate 5 0)

-- its listing, a line to a line
abbrev output : List ℕ
output =
    ascii "  sample   value\n"
    ++ (ascii "       0       1\n"
    ++ (ascii "       1      -1\n"
    ++ (ascii "       2       7\n"
    ++ (ascii "     yn1     yn2\n"
    ++ ascii "       7      -1\n"))))

pub worked_example : listed input ≡ output
unfolding listed decimal coefficients_in samples_in last_history_in sample_of sum_of
worked_example = refl
