-- A fade from -3e38 to 3e38 comes to what document 01 says: at i = 0 and at i = 159 it computes, and 0 times any float is cast to 0.
-- Assumes nothing.
use mathlib.Core.Path.{◌≡◌, refl}
use mathlib.Core.Bool.{false}
use Prim.Native.Nat.{ℕ, ◌*◌, ◌≤◌, ◌<◌}
use native.Mathlib.Omega.{arith}
use lib.Dec.{lit<}
use lib.IntN.{pos}
use lib.Ieee.{Float, nan, inf, fin, binary32, up, down, unlike, of_bits, of_int, add, sub, mul, div, to_signed}
use lib.Ieee.Fits.{down_pos}
use Rattle.numbers.specs.Bits.{gain}
use Rattle.numbers.specs.Casts.{cast_i32, single}
use Rattle.numbers.specs.Single.{◌⊕◌, ◌⊖◌, ◌⊗◌}
use Rattle.numbers.proofs.Reach.{Reach, round_reach, cast_reach, only_zero}
use Rattle.mixing.specs.Gain.{progress, fading}
use Rattle.mixing.specs.Overflow.{+3e38, -3e38, FadeOverflows}

at_zero : (x : Float) → Reach (x ⊗ single (pos 0)) 0 → cast_i32 (x ⊗ single (pos 0)) ≡ pos 0
at_zero x w = only_zero _ (cast_reach 31 _ 0 w)

-- 0 times a finite float is a zero, and else not a number
times_zero : (x : Float) → cast_i32 (x ⊗ single (pos 0)) ≡ pos 0
unfolding mul of_int to_signed
times_zero nan = refl
times_zero (inf s) = refl
times_zero (fin s m e) =
    at_zero (fin s m e)
    (round_reach binary32 (unlike s false) (m * up e * 0) (down e * 1) 0 (some (down e) (down_pos e)) (none (m * up e) (down e * 1))
    (lit< tt))
  where
    some : (d : ℕ) → 0 < d → 0 < d * 1
    some d h = omega arith

    none : (n d : ℕ) → n * 0 ≤ 0 * d
    none n d = omega arith

still : (i : ℕ) → fading -3e38 +3e38 i (pos 0) ≡ pos 0
unfolding fading
still i = times_zero (-3e38 ⊕ (+3e38 ⊖ -3e38) ⊗ progress i)

pub fade_overflows : FadeOverflows
unfolding fading gain of_bits of_int add sub mul div to_signed
fade_overflows = record { first = λ sample. refl; still = still; last = refl }
