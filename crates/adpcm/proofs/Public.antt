-- Document 01's decode is the public description's wherever every sum fits 32 signed bits and no header has bit 7 set: the code at each
-- index is the one that the description reads there, a sum that fits wraps to itself, and so the samples are equal one after the other.
-- Assumes nothing.
use mathlib.Core.Path.{◌≡◌, refl, sym, ap, ◌∙◌}
use mathlib.Core.Bool.{Bool, true, false, cond}
use mathlib.Core.List.{List, ◌++◌}
use mathlib.Core.Logic.{⊎_elim}
use Prim.Native.Nat.{ℕ, zero, suc, ◌+◌, ◌-◌, ◌*◌, ◌/◌, ◌%◌, ◌^◌, ◌≤◌, ◌<◌}
use native.Mathlib.Decide.{ℕ_discrete}
use native.Mathlib.Omega.{arith}
use lib.Dec.{eqb, leb, ltb, leb→le, lit<}
use lib.IntN.{ℤ, pos, negsuc, neg_ℤ, ◌+ℤ◌, ◌*ℤ◌}
use lib.ListN.{length, take, drop, get_or, length-drop, get_or-append, get_or-map}
use lib.Seq.{length-take-le, get_or-take, get_or-drop, get_or-append-add, take_all, ext_get_or}
use lib.Signed.{shr_z}
use mir.Syntax.{w32}
use mir.Val.{SFits}
use borrow.Author.Tests.{lt-ltb, le-ltb, le-leb, lt-leb, eq-eqb, ne_eqb}
use Rattle.lists.proofs.Bools.{cond_yes, cond_no}
use Rattle.lists.proofs.Tabulate.{length_tabulate, get_d_tabulate}
use Rattle.lists.proofs.Walk.{below_or, get_d_any}
use Rattle.numbers.specs.Wrap.{wrap32, clamp16}
use Rattle.numbers.proofs.Bounds.{sub_below}
use Rattle.numbers.proofs.Ranges.{wrap_self}
use Rattle.adpcm.specs.declared.History.{History}
use Rattle.adpcm.specs.Code.{Code, code, nibbles, frame_codes, codes_of, frames_of, signed_nibble, sum_of, after, samples_of, history_after}
use Rattle.adpcm.specs.Adpcm.{sample_of, scaled_down}
use Rattle.adpcm.specs.Public.{header, exponent, predictor, nibble, signed, public_sum, floor, clamp, public_sample, public_history}
use Rattle.adpcm.specs.Public.{public_samples}
use Rattle.adpcm.specs.Agreement.{Fits32, AgreesWithPublished}
use Rattle.adpcm.proofs.Codes.{frame_even, frame_odd, frame_long, codes_long, length_samples, sample_at_lem, history_suc}

-- ---- numbers

-- a nibble as a signed number
signed_is : (k : ℕ) → k < 16 → signed_nibble k ≡ signed k
signed_is k h =
    ⊎_elim
    (λ l. cond_yes _ _ (lt-ltb k 8 l) ∙ sym (cond_yes _ _ (lt-ltb k 8 l)))
    (λ l. cond_no _ _ (le-ltb k 8 l) ∙ sym (cond_no _ _ (le-ltb k 8 l) ∙ sub_below k 16 h ∙ ap negsuc same))
    (below_or k 8)
  where
    same : 16 - suc k ≡ 15 - k
    same = omega arith

-- rounding down by 2048
floor_is : (z : ℤ) → shr_z z 2048 ≡ floor z
floor_is (pos n) = refl
floor_is (negsuc n) = sym (ap (λ (k : ℕ). neg_ℤ (pos k)) (up n))
  where
    up : (n : ℕ) → (suc n + 2047) / 2048 ≡ suc (n / 2048)
    up n = omega arith

-- the nearest number of 16 bits: the two ask for the same bound, one from above and one from below
past : (n : ℕ) (end z : ℤ) → cond (ltb 32767 n) end z ≡ cond (leb n 32767) z end
past n end z =
    ⊎_elim
    (λ l. cond_yes _ _ (lt-ltb 32767 n l) ∙ sym (cond_no _ _ (lt-leb n 32767 l)))
    (λ l. cond_no _ _ (le-ltb 32767 n l) ∙ sym (cond_yes _ _ (le-leb n 32767 l)))
    (below_or 32767 n)

clamp_is : (z : ℤ) → clamp16 z ≡ clamp z
clamp_is (pos n) = past n (pos 32767) (pos n)
clamp_is (negsuc n) = past n (negsuc 32767) (negsuc n)

scaled_is : (z : ℤ) → scaled_down z ≡ clamp (floor z)
scaled_is z = clamp_is (shr_z z 2048) ∙ ap clamp (floor_is z)

-- a number from -2147483648 to 2147483647 is one of 32 bits
fits : (z : ℤ) → Fits32 z → SFits w32 z
fits (pos n) f = record { sfits = omega (arith, leb→le n _ f.1.le) }
fits (negsuc n) f = record { sfits = omega (arith, leb→le n _ f.0.le) }

-- ---- codes by the index

-- the code that the description reads for sample n, with the predictor as document 01 takes it
abbrev read : List ℤ → List ℕ → ℕ → Code
read cs bytes n =
    code (header bytes n % 16) (get_or cs (header bytes n / 16 % 8 * 2) (pos 0)) (get_or cs (header bytes n / 16 % 8 * 2 + 1) (pos 0))
    (nibble bytes n)

-- in the first frame
module _ (cs : List ℤ) (bytes : List ℕ) (n : ℕ) (h : n < 14) (l : 8 ≤ length bytes) where
  eight : length (take 8 bytes) ≡ 8
  eight = length-take-le 8 bytes l

  header_is : get_or (take 8 bytes) 0 0 ≡ header bytes n
  header_is = get_or-take 8 bytes 0 0 (lit< tt) ∙ ap (λ (k : ℕ). get_or bytes k 0) place
    where
      place : 0 ≡ 8 * (n / 14)
      place = omega arith

  byte_is : get_or (take 8 bytes) (1 + n / 2) 0 ≡ get_or bytes (8 * (n / 14) + 1 + n % 14 / 2) 0
  byte_is = get_or-take 8 bytes (1 + n / 2) 0 (omega arith) ∙ ap (λ (k : ℕ). get_or bytes k 0) place
    where
      place : 1 + n / 2 ≡ 8 * (n / 14) + 1 + n % 14 / 2
      place = omega arith

  nibble_is : get_or (nibbles (drop 1 (take 8 bytes))) n 0 ≡ nibble bytes n
  nibble_is = elim (ℕ_discrete (n % 2) 0) [
    | yes z ↦ frame_even (take 8 bytes) n eight h z ∙ ap (λ (b : ℕ). b / 16) byte_is
        ∙ sym (cond_yes _ _ (eq-eqb (n % 14 % 2) 0 (omega arith)))
    | no z ↦ frame_odd (take 8 bytes) n eight h z ∙ ap (λ (b : ℕ). b % 16) byte_is ∙ sym (cond_no _ _ (ne_eqb (n % 14 % 2) 0 (omega arith)))
  ]

  first_read : (d : Code) → get_or (frame_codes cs (take 8 bytes)) n d ≡ read cs bytes n
  first_read d =
      get_d_any (frame_codes cs (take 8 bytes)) n d _ (omega (arith, frame_long cs (take 8 bytes) eight))
      ∙ get_or-map _ (nibbles (drop 1 (take 8 bytes))) n 0
      ∙ (λ i. code (header_is i % 16) (get_or cs (header_is i / 16 % 8 * 2) (pos 0)) (get_or cs (header_is i / 16 % 8 * 2 + 1) (pos 0))
      (nibble_is i))

-- a frame further on
moved : (cs : List ℤ) (bytes : List ℕ) (n : ℕ) → 14 ≤ n → read cs (drop 8 bytes) (n - 14) ≡ read cs bytes n
moved cs bytes n h =
    λ i. code (head i % 16) (get_or cs (head i / 16 % 8 * 2) (pos 0)) (get_or cs (head i / 16 % 8 * 2 + 1) (pos 0))
    (cond (eqb (half i) 0) (byte i / 16) (byte i % 16))
  where
    head : header (drop 8 bytes) (n - 14) ≡ header bytes n
    head = get_or-drop 8 bytes (8 * ((n - 14) / 14)) 0 ∙ ap (λ (k : ℕ). get_or bytes k 0) place
      where
        place : 8 + 8 * ((n - 14) / 14) ≡ 8 * (n / 14)
        place = omega arith

    half : (n - 14) % 14 % 2 ≡ n % 14 % 2
    half = omega arith

    byte : get_or (drop 8 bytes) (8 * ((n - 14) / 14) + 1 + (n - 14) % 14 / 2) 0 ≡ get_or bytes (8 * (n / 14) + 1 + n % 14 / 2) 0
    byte = get_or-drop 8 bytes (8 * ((n - 14) / 14) + 1 + (n - 14) % 14 / 2) 0 ∙ ap (λ (k : ℕ). get_or bytes k 0) place
      where
        place : 8 + (8 * ((n - 14) / 14) + 1 + (n - 14) % 14 / 2) ≡ 8 * (n / 14) + 1 + n % 14 / 2
        place = omega arith

code_at :
    (f : ℕ) (cs : List ℤ) (bytes : List ℕ) (n : ℕ) (d : Code) → f * 8 ≤ length bytes → n < f * 14
    → get_or (codes_of f cs bytes) n d ≡ read cs bytes n
code_at zero cs bytes n d l h = absurd (omega arith)
code_at (suc f) cs bytes n d l h =
    ⊎_elim first (λ k. later k (code_at f cs (drop 8 bytes) (n - 14) d (simp length-drop (omega arith)) (omega arith))) (below_or n 14)
  where
    eight_or_more : 8 ≤ length bytes
    eight_or_more = omega arith

    long : length (frame_codes cs (take 8 bytes)) ≡ 14
    long = frame_long cs (take 8 bytes) (length-take-le 8 bytes eight_or_more)

    first : n < 14 → get_or (frame_codes cs (take 8 bytes) ++ codes_of f cs (drop 8 bytes)) n d ≡ read cs bytes n
    first k =
        get_or-append (frame_codes cs (take 8 bytes)) (codes_of f cs (drop 8 bytes)) d n (omega (arith, long))
        ∙ first_read cs bytes n k eight_or_more d

    later : 14 ≤ n → get_or (codes_of f cs (drop 8 bytes)) (n - 14) d ≡ read cs (drop 8 bytes) (n - 14)
        → get_or (frame_codes cs (take 8 bytes) ++ codes_of f cs (drop 8 bytes)) n d ≡ read cs bytes n
    later k rest =
        ap (λ (m : ℕ). get_or (frame_codes cs (take 8 bytes) ++ codes_of f cs (drop 8 bytes)) m d) past
        ∙ get_or-append-add (frame_codes cs (take 8 bytes)) (codes_of f cs (drop 8 bytes)) (n - 14) d
        ∙ rest
        ∙ moved cs bytes n k
      where
        past : n ≡ length (frame_codes cs (take 8 bytes)) + (n - 14)
        past = omega (arith, long)

-- ---- samples by the index

nibble_small : (bytes : List ℕ) (n : ℕ) → ((i : ℕ) → get_or bytes i 0 < 256) → nibble bytes n < 16
nibble_small bytes n small =
    go (eqb (n % 14 % 2) 0) (get_or bytes (8 * (n / 14) + 1 + n % 14 / 2) 0) (small (8 * (n / 14) + 1 + n % 14 / 2))
  where
    go : (t : Bool) (b : ℕ) → b < 256 → cond t (b / 16) (b % 16) < 16
    go true b h = omega arith
    go false b h = omega arith

module _ (cs : List ℤ) (bytes : List ℕ) (before : History) (n : ℕ) (small : (i : ℕ) → get_or bytes i 0 < 256)
    (clear : header bytes n < 128) where
  sum_is : sum_of before (read cs bytes n) ≡ public_sum cs bytes before n
  unfolding sum_of public_sum
  sum_is =
      λ i. signed_is (nibble bytes n) (nibble_small bytes n small) i *ℤ pos (2 ^ exponent bytes n) *ℤ pos 2048 +ℤ pos 1024
      +ℤ get_or cs (pair i) (pos 0) *ℤ before.yn1 +ℤ get_or cs (pair i + 1) (pos 0) *ℤ before.yn2
    where
      pair : header bytes n / 16 % 8 * 2 ≡ 2 * predictor bytes n
      pair = omega arith

  same_sample : Fits32 (public_sum cs bytes before n) → sample_of before (read cs bytes n) ≡ public_sample cs bytes before n
  unfolding sample_of public_sample
  same_sample f =
      ap scaled_down (ap wrap32 sum_is ∙ wrap_self (public_sum cs bytes before n) (fits (public_sum cs bytes before n) f))
      ∙ scaled_is (public_sum cs bytes before n)

module _ (cs : List ℤ) (h : History) (bytes : List ℕ) (count : ℕ) (small : (i : ℕ) → get_or bytes i 0 < 256)
    (whole : frames_of count * 8 ≤ length bytes)
    (clear : (n : ℕ) → n < count → header bytes n < 128)
    (fit : (n : ℕ) → n < count → Fits32 (public_sum cs bytes (public_history cs h bytes n) n)) where
  abbrev codes : List Code
  codes = take count (codes_of (frames_of count) cs bytes)

  abbrev none : Code
  none = code 0 (pos 0) (pos 0) 0

  long : length codes ≡ count
  long = length-take-le count (codes_of (frames_of count) cs bytes) (omega (arith, codes_long (frames_of count) cs bytes whole))

  code_is : (n : ℕ) → n < count → get_or codes n none ≡ read cs bytes n
  code_is n l = get_or-take count (codes_of (frames_of count) cs bytes) n none l
      ∙ code_at (frames_of count) cs bytes n none whole (omega arith)

  same_history : (n : ℕ) → n ≤ count → history_after sample_of h (take n codes) ≡ public_history cs h bytes n
  same_history zero l = refl
  same_history (suc n) l =
      let before = public_history cs h bytes n in
      history_suc sample_of h codes n none (omega (arith, long))
      ∙ (λ i. after sample_of (same_history n (omega arith) i) (code_is n l i))
      ∙ (λ i. record { yn1 = same_sample cs bytes before n small (clear n l) (fit n l) i; yn2 = before.yn1 })

  sample_is : (n : ℕ) → n < count → get_or (samples_of sample_of h codes) n (pos 0) ≡ public_sample cs bytes (public_history cs h bytes n) n
  sample_is n l =
      sample_at_lem sample_of h codes n none (omega (arith, long))
      ∙ (λ i. sample_of (same_history n (omega arith) i) (code_is n l i))
      ∙ same_sample cs bytes (public_history cs h bytes n) n small (clear n l) (fit n l)

  same_samples : samples_of sample_of h codes ≡ public_samples cs h bytes count
  same_samples =
      ext_get_or (pos 0) (samples_of sample_of h codes) (public_samples cs h bytes count)
      (all ∙ sym (length_tabulate _ count))
      (λ n l. (
      let k : n < count = omega (arith, all) in
      sample_is n k ∙ sym (get_d_tabulate _ count n (pos 0) k)))
    where
      all : length (samples_of sample_of h codes) ≡ count
      all = length_samples sample_of h codes ∙ long

pub agrees_with_published : AgreesWithPublished
agrees_with_published = record {
  holds = λ cs h bytes count frames small enough there clear fit. (
      let whole : frames_of count * 8 ≤ length bytes = omega arith in (
        same_samples cs h bytes count small whole clear fit,
        ap (history_after sample_of h) (sym (take_all count _ (omega (arith, long cs h bytes count small whole clear fit))))
            ∙ same_history cs h bytes count small whole clear fit count (omega arith),
      ));
}
