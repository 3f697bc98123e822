-- The public description of GameCube and Wii DSP-ADPCM, in its own words: sample n, counted from 0, from its frame's bytes and the two
-- samples before it. A sum is a whole number of any size: nothing wraps. It takes nothing from `Code.antt` and `Adpcm.antt`, which say how
-- document 01 decodes; `Agreement.antt` says where the two give the same. Assumes nothing: these are definitions.
use Rattle.std.specs.Prelude.{ℕ, zero, suc, ◌+◌, ◌*◌, ◌/◌, ◌%◌, ◌^◌, cond, List, eqb, ltb, get_or, ℤ, pos, negsuc, neg_ℤ, ◌+ℤ◌, ◌-ℤ◌, ◌*ℤ◌}
use Rattle.std.specs.Int.Signed.{le_z}
use Rattle.lists.specs.Tabulate.{tabulate}
use Rattle.adpcm.specs.declared.History.{History}

-- A frame is eight bytes and holds 14 samples. The first byte of sample n's frame is its header:
abbrev pub header : List ℕ → ℕ → ℕ
header bytes n = get_or bytes (8 * (n / 14)) 0

-- the lower half of the header is the exponent of a scale, the upper half the predictor, the number of one of eight pairs of coefficients
abbrev pub exponent : List ℕ → ℕ → ℕ
exponent bytes n = header bytes n % 16

abbrev pub predictor : List ℕ → ℕ → ℕ
predictor bytes n = header bytes n / 16

-- The frame's other seven bytes are 14 nibbles, two in each, the upper half before the lower. Sample n has nibble n % 14:
abbrev pub nibble : List ℕ → ℕ → ℕ
nibble bytes n =
    let byte = get_or bytes (8 * (n / 14) + 1 + n % 14 / 2) 0 in
    cond (eqb (n % 14 % 2) 0) (byte / 16) (byte % 16)

-- a nibble is signed, from -8 to 7: from 8 on it stands for 16 less
abbrev pub signed : ℕ → ℤ
signed k = cond (ltb k 8) (pos k) (pos k -ℤ pos 16)

-- the sum of sample n, in parts of 2048: the nibble times the scale, a half, and the two samples before it, the newer times the first
-- coefficient of the pair and the older times the second
unfoldable pub public_sum : List ℤ → List ℕ → History → ℕ → ℤ
public_sum coefficients bytes before n =
    signed (nibble bytes n) *ℤ pos (2 ^ exponent bytes n) *ℤ pos 2048 +ℤ pos 1024
    +ℤ get_or coefficients (2 * predictor bytes n) (pos 0) *ℤ before.yn1
    +ℤ get_or coefficients (2 * predictor bytes n + 1) (pos 0) *ℤ before.yn2

-- a whole number divided by 2048, rounded down: where it is -(n + 1), minus what n + 1 gives rounded up
abbrev pub floor : ℤ → ℤ
floor (pos n) = pos (n / 2048)
floor (negsuc n) = neg_ℤ (pos ((suc n + 2047) / 2048))

-- the number from -32768 to 32767 that is nearest
abbrev pub clamp : ℤ → ℤ
clamp z = cond (le_z z (pos 32767)) (cond (le_z (neg_ℤ (pos 32768)) z) z (neg_ℤ (pos 32768))) (pos 32767)

-- sample n, from the two before it
unfoldable pub public_sample : List ℤ → List ℕ → History → ℕ → ℤ
public_sample coefficients bytes before n = clamp (floor (public_sum coefficients bytes before n))

-- the two samples before sample n, the newer first: those given, and then those made
abbrev pub public_history : List ℤ → History → List ℕ → ℕ → History
public_history coefficients h bytes zero = h
public_history coefficients h bytes (suc n) =
    let before = public_history coefficients h bytes n in
    record { yn1 = public_sample coefficients bytes before n; yn2 = before.yn1 }

-- the samples from 0 to count - 1
abbrev pub public_samples : List ℤ → History → List ℕ → ℕ → List ℤ
public_samples coefficients h bytes count = tabulate (λ n. public_sample coefficients bytes (public_history coefficients h bytes n) n) count
