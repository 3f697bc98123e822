-- Which region is read, by the two regions' frame counters, and the regions' numbers. Assumes nothing: these are definitions.
use Rattle.std.specs.Prelude.{◌≡◌, ◌≤◌, ◌<◌, ℕ, not, ◌&&◌, cond, eqb, ltb, Result, Ok, Err}
use Rattle.refusals.specs.declared.Refusal.{Refusal}
use Rattle.refusals.specs.declared.Refusal.TheVariants.{RegionNumber}
use Rattle.region.specs.declared.Region.{Region}
use Rattle.region.specs.declared.Region.TheVariants.{Zero, One}

-- "First is 0xFFFF and second not 0xFFFE: 1. Else second is 0xFFFF and first not 0xFFFE: 0. Else 0 if first exceeds second, otherwise 1."
abbrev pub chosen : ℕ → ℕ → ℕ
chosen first second =
    cond (eqb first 65535 && not (eqb second 65534)) 1
    (cond (eqb second 65535 && not (eqb first 65534)) 0
    (cond (ltb second first) 0 1))

-- a region's number
abbrev pub number_of_region : Region → ℕ
number_of_region Zero = 0
number_of_region One = 1

-- what a number is answered with: the region that has it, or 8: "the mixer's region number exceeds 1"
abbrev pub FromNumber : ℕ → Result Region Refusal → Type 0
FromNumber n (Ok region) = (number_of_region region ≡ n) × (n ≤ 1)
FromNumber n (Err refusal) = (refusal ≡ RegionNumber) × (1 < n)
