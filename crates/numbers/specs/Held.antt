-- What the quick casts of a float go through: the float held to what the type reaches, its size, and its whole part with the sign back.
-- Assumes nothing: these are definitions.
use Rattle.std.specs.Prelude.{◌≡◌, ℕ, ◌*◌, ◌/◌, ◌≤◌, true, false, cond, ℤ, pos, neg_ℤ, Float}
use Rattle.std.specs.Float.{nan, inf, fin}
use Rattle.std.specs.Float.Ieee.{up, down, lt, eq, neg}
use Rattle.numbers.specs.Literals.{+0}

-- 32767 and -32768
abbrev pub top : Float
top = fin false 32767 (pos 0)

abbrev pub bottom : Float
bottom = fin true 1 (pos 15)

-- 4294967295
abbrev pub top_u32 : Float
top_u32 = fin false 4294967295 (pos 0)

-- the smaller of a number and a bound, and the larger: the bound also stands for not-a-number
abbrev pub at_most : Float → Float → Float
at_most bound x = cond (lt x bound) x bound

abbrev pub at_least : Float → Float → Float
at_least bound x = cond (lt bound x) x bound

-- the larger of a number and 0.0
abbrev pub at_least_0 : Float → Float
at_least_0 x = at_least +0 x

-- held to what 16 bits reach, with 0.0 for not-a-number
unfoldable pub held : Float → Float
held x = cond (eq x x) (at_least bottom (at_most top x)) +0

-- a number without its sign
abbrev pub size_of : Float → Float
size_of z = cond (lt z +0) (neg z) z

-- a number from 0 to M, either zero among them
abbrev pub Upto : ℕ → Float → Type 0
Upto M nan = ⊥
Upto M (inf s) = ⊥
Upto M (fin s m e) = (s ≡ true → m * up e ≡ 0) × (m * up e ≤ M * down e)

-- what the size of a held number is
abbrev pub Small : Float → Type 0
Small a = Upto 32768 a

-- the whole part of its size
abbrev pub whole_of : Float → ℕ
whole_of nan = 0
whole_of (inf s) = 0
whole_of (fin s m e) = m * up e / down e

-- a whole number with a float's sign
abbrev pub with_sign : Float → ℤ → ℤ
with_sign z k = cond (lt z +0) (neg_ℤ k) k
