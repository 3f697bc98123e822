-- Text as the decode listing has it, a list of ASCII bytes: words, numbers in decimal, and columns. Assumes nothing: these are definitions.
use Rattle.std.specs.Prelude.{ℕ, zero, suc, ◌+◌, ◌-◌, ◌/◌, ◌%◌, Bool, true, false, cond, List, [], ◌∷◌, ◌++◌, ltb, ℤ, pos, negsuc, length}
use Rattle.std.specs.Prelude.{replicate}
use Prim.Native.Char.{code}
use Prim.Native.String.{String, [] as nothing, ◌∷◌ as ◌then◌}

-- the bytes of a text
abbrev pub ascii : String → List ℕ
ascii nothing = []
ascii (c then text) = code c ∷ ascii text

-- the last decimal digit of n
abbrev pub last_digit : ℕ → ℕ
last_digit n = code "0" + n % 10

-- the decimal digits of n, a digit a turn: a number below ten is its only digit, any other has the digits of its tenth part before its last
abbrev pub decimal_in : ℕ → ℕ → List ℕ
decimal_in zero n = []
decimal_in (suc turns) n = cond (ltb n 10) [] (decimal_in turns (n / 10)) ++ (last_digit n ∷ [])

-- the decimal digits of n, with no leading zeros: n + 1 turns are always enough
unfoldable pub decimal : ℕ → List ℕ
decimal n = decimal_in (suc n) n

-- the decimal digits of n, after "-" where it is to be negative
abbrev pub numeral : Bool → ℕ → List ℕ
numeral negative n = cond negative (code "-" ∷ decimal n) (decimal n)

-- a whole number in decimal
abbrev pub signed_decimal : ℤ → List ℕ
signed_decimal (pos n) = numeral false n
signed_decimal (negsuc n) = numeral true (suc n)

-- a text "right-justified" in a column of a width; one that is longer than the width stands as it is
abbrev pub column : ℕ → List ℕ → List ℕ
column width text = replicate (width - length text) (code " ") ++ text

-- "every line ends with a newline"
abbrev pub newline : List ℕ
newline = ascii "\n"
