-- Laws of the coding by the index and by the frame: which nibble stands where, and that codes taken in two runs decode as in one. By
-- induction on the lists. Assumes nothing.
use mathlib.Core.Path.{◌≡◌, refl, sym, ap, ◌∙◌}
use mathlib.Core.List.{List, [], ◌∷◌, ◌++◌, append-nil}
use mathlib.Core.Logic.{⊎_elim}
use Prim.Native.Nat.{ℕ, zero, suc, min, ◌+◌, ◌-◌, ◌*◌, ◌/◌, ◌%◌, ◌≤◌, ◌<◌}
use native.Mathlib.Nat.{add_comm, le_of_eq, le_of_suc-le-suc, not-suc-le-zero}
use native.Mathlib.Numerals.{add-one}
use native.Mathlib.Omega.{arith}
use lib.IntN.{ℤ, pos}
use lib.ListN.{length, take, drop, get_or, length-append, length-drop, length-map, get_or-map}
use lib.Seq.{length-take-le, take_all, take-append-le, take-append-add, get_or-take, get_or-drop}
use Rattle.lists.proofs.Walk.{below_or}
use Rattle.adpcm.specs.declared.History.{History}
use Rattle.adpcm.specs.Code.{Code, first_nibble, second_nibble, nibbles, code, codes_by, frame_codes, codes_of, frames_of, after}
use Rattle.adpcm.specs.Code.{samples_of, history_after, decoded_samples, decoded_history}

-- ---- nibbles

length_nibbles : (bytes : List ℕ) → length (nibbles bytes) ≡ length bytes * 2
length_nibbles [] = refl
length_nibbles (b ∷ bytes) = ap (λ (n : ℕ). suc (suc n)) (length_nibbles bytes) ∙ two (length bytes)
  where
    two : (n : ℕ) → suc (suc (n * 2)) ≡ suc n * 2
    two n = omega arith

-- at an even index stands a byte's first nibble, at an odd one its second
pub nibble_even : (bytes : List ℕ) (i k : ℕ) → i ≡ k * 2 → k < length bytes → get_or (nibbles bytes) i 0 ≡ first_nibble (get_or bytes k 0)
nibble_even [] i k e h = absurd (not-suc-le-zero h)
nibble_even (b ∷ bytes) i zero e h = ap (λ (n : ℕ). get_or (nibbles (b ∷ bytes)) n 0) e
nibble_even (b ∷ bytes) i (suc k) e h =
    ap (λ (n : ℕ). get_or (nibbles (b ∷ bytes)) n 0) (e ∙ two k) ∙ nibble_even bytes (k * 2) k refl (le_of_suc-le-suc h)
  where
    two : (k : ℕ) → suc k * 2 ≡ suc (suc (k * 2))
    two k = omega arith

pub nibble_odd : (bytes : List ℕ) (i k : ℕ) → i ≡ suc (k * 2) → k < length bytes
    → get_or (nibbles bytes) i 0 ≡ second_nibble (get_or bytes k 0)
nibble_odd [] i k e h = absurd (not-suc-le-zero h)
nibble_odd (b ∷ bytes) i zero e h = ap (λ (n : ℕ). get_or (nibbles (b ∷ bytes)) n 0) e
nibble_odd (b ∷ bytes) i (suc k) e h =
    ap (λ (n : ℕ). get_or (nibbles (b ∷ bytes)) n 0) (e ∙ two k) ∙ nibble_odd bytes (suc (k * 2)) k refl (le_of_suc-le-suc h)
  where
    two : (k : ℕ) → suc (suc k * 2) ≡ suc (suc (suc (k * 2)))
    two k = omega arith

-- the same of a frame, whose first byte is the header
module _ (frame : List ℕ) (i : ℕ) (e : length frame ≡ 8) (h : i < 14) where
  pub frame_even : i % 2 ≡ 0 → get_or (nibbles (drop 1 frame)) i 0 ≡ first_nibble (get_or frame (1 + i / 2) 0)
  frame_even z =
      nibble_even (drop 1 frame) i (i / 2) (omega arith) (simp length-drop (omega arith)) ∙ ap first_nibble (get_or-drop 1 frame (i / 2) 0)

  pub frame_odd : (i % 2 ≡ 0 → ⊥) → get_or (nibbles (drop 1 frame)) i 0 ≡ second_nibble (get_or frame (1 + i / 2) 0)
  frame_odd z =
      nibble_odd (drop 1 frame) i (i / 2) (omega arith) (simp length-drop (omega arith)) ∙ ap second_nibble (get_or-drop 1 frame (i / 2) 0)

-- ---- codes

-- a frame of eight bytes has 14 codes
pub codes_by_long : (e : ℕ) (c1 c2 : ℤ) (frame : List ℕ) → length frame ≡ 8 → length (codes_by e c1 c2 frame) ≡ 14
codes_by_long e c1 c2 frame h = length-map (nibbles (drop 1 frame)) _ ∙ length_nibbles (drop 1 frame) ∙ simp length-drop (omega arith)

pub frame_long : (cs : List ℤ) (frame : List ℕ) → length frame ≡ 8 → length (frame_codes cs frame) ≡ 14
frame_long cs frame h = codes_by_long _ _ _ frame h

pub taken_long : (codes : List Code) (n : ℕ) → length codes ≡ 14 → n ≤ 14 → length (take n codes) ≡ n
taken_long codes n e h = length-take-le n codes (omega arith)

-- among a frame's first n codes, the two of the byte at an index past the header
module _ (e : ℕ) (c1 c2 : ℤ) (frame : List ℕ) (n i : ℕ) (l : length frame ≡ 8) (m : n ≤ 14) where
  at_index :
      (k b : ℕ) → k < n → get_or (nibbles (drop 1 frame)) k 0 ≡ b
      → code e c1 c2 b ≡ get_or (take n (codes_by e c1 c2 frame)) k (code e c1 c2 0)
  at_index k b h q =
      ap (code e c1 c2) (sym q)
      ∙ sym (get_or-take n (codes_by e c1 c2 frame) k (code e c1 c2 0) h ∙ get_or-map (code e c1 c2) (nibbles (drop 1 frame)) k 0)

  pub code_first :
      i * 2 < n → code e c1 c2 (first_nibble (get_or frame (i + 1) 0)) ≡ get_or (take n (codes_by e c1 c2 frame)) (i * 2) (code e c1 c2 0)
  code_first h = at_index (i * 2) _ h (nibble_even (drop 1 frame) (i * 2) i refl (simp length-drop (omega arith)) ∙ ap first_nibble there)
    where
      there : get_or (drop 1 frame) i 0 ≡ get_or frame (i + 1) 0
      there = get_or-drop 1 frame i 0 ∙ ap (λ (k : ℕ). get_or frame k 0) (add_comm 1 i)

  pub code_second :
      i * 2 + 1 < n
      → code e c1 c2 (second_nibble (get_or frame (i + 1) 0)) ≡ get_or (take n (codes_by e c1 c2 frame)) (i * 2 + 1) (code e c1 c2 0)
  code_second h =
      at_index (i * 2 + 1) _ h
      (nibble_odd (drop 1 frame) (i * 2 + 1) i (omega arith) (simp length-drop (omega arith)) ∙ ap second_nibble there)
    where
      there : get_or (drop 1 frame) i 0 ≡ get_or frame (i + 1) 0
      there = get_or-drop 1 frame i 0 ∙ ap (λ (k : ℕ). get_or frame k 0) (add_comm 1 i)

pub codes_long : (f : ℕ) (cs : List ℤ) (bytes : List ℕ) → f * 8 ≤ length bytes → length (codes_of f cs bytes) ≡ f * 14
codes_long zero cs bytes h = refl
codes_long (suc f) cs bytes h =
    length-append (frame_codes cs (take 8 bytes)) (codes_of f cs (drop 8 bytes))
    ∙ (λ i. frame_long cs (take 8 bytes) (length-take-le 8 bytes (omega arith)) i + codes_long f cs (drop 8 bytes)
    (simp length-drop (omega arith)) i)
    ∙ more f
  where
    more : (f : ℕ) → 14 + f * 14 ≡ suc f * 14
    more f = omega arith

-- the first m codes of a frame's 14 and of those after it: the frame's first, then the rest's
take_over : (xs ys : List Code) (m : ℕ) → length xs ≡ 14 → take m (xs ++ ys) ≡ take (min 14 m) xs ++ take (m - 14) ys
take_over xs ys m e = ⊎_elim few many (below_or m 14)
  where
    few : m < 14 → take m (xs ++ ys) ≡ take (min 14 m) xs ++ take (m - 14) ys
    few h =
        take-append-le m xs ys (omega arith) ∙ sym (append-nil (take m xs))
        ∙ (λ i. take (same i) xs ++ take (none i) ys)
      where
        same : m ≡ min 14 m
        same = omega arith

        none : 0 ≡ m - 14
        none = omega arith

    many : 14 ≤ m → take m (xs ++ ys) ≡ take (min 14 m) xs ++ take (m - 14) ys
    many h =
        ap (λ (n : ℕ). take n (xs ++ ys)) all ∙ take-append-add xs ys (m - 14)
        ∙ ap (λ (l : List Code). l ++ take (m - 14) ys) (sym (take_all (min 14 m) xs (omega arith)))
      where
        all : m ≡ length xs + (m - 14)
        all = omega arith

-- ---- decoding in two runs

module _ (sample : History → Code → ℤ) where
  pub length_samples : (h : History) (codes : List Code) → length (samples_of sample h codes) ≡ length codes
  length_samples h [] = refl
  length_samples h (c ∷ codes) = ap suc (length_samples (after sample h c) codes)

  pub samples_append :
      (h : History) (xs ys : List Code)
      → samples_of sample h (xs ++ ys) ≡ samples_of sample h xs ++ samples_of sample (history_after sample h xs) ys
  samples_append h [] ys = refl
  samples_append h (x ∷ xs) ys = ap (λ (l : List ℤ). sample h x ∷ l) (samples_append (after sample h x) xs ys)

  pub history_append :
      (h : History) (xs ys : List Code) → history_after sample h (xs ++ ys) ≡ history_after sample (history_after sample h xs) ys
  history_append h [] ys = refl
  history_append h (x ∷ xs) ys = history_append (after sample h x) xs ys

  -- the sample at an index, from the history after those before it
  pub sample_at_lem : (h : History) (codes : List Code) (i : ℕ) (d : Code) → i < length codes
      → get_or (samples_of sample h codes) i (pos 0) ≡ sample (history_after sample h (take i codes)) (get_or codes i d)
  sample_at_lem h [] i d k = absurd (not-suc-le-zero k)
  sample_at_lem h (c ∷ codes) zero d k = refl
  sample_at_lem h (c ∷ codes) (suc i) d k = sample_at_lem (after sample h c) codes i d (le_of_suc-le-suc k)

  pub history_suc : (h : History) (codes : List Code) (i : ℕ) (d : Code) → i < length codes
      → history_after sample h (take (suc i) codes) ≡ after sample (history_after sample h (take i codes)) (get_or codes i d)
  history_suc h [] i d k = absurd (not-suc-le-zero k)
  history_suc h (c ∷ codes) zero d k = refl
  history_suc h (c ∷ codes) (suc i) d k = history_suc (after sample h c) codes i d (le_of_suc-le-suc k)

  pub history_next : (h : History) (codes : List Code) (i : ℕ) (d : Code) → i < length codes
      → history_after sample h (take (i + 1) codes) ≡ after sample (history_after sample h (take i codes)) (get_or codes i d)
  history_next h codes i d k = ap (λ (m : ℕ). history_after sample h (take m codes)) (add-one i) ∙ history_suc h codes i d k

  -- a frame comes off the front of a decode
  module _ (cs : List ℤ) (h : History) (bytes : List ℕ) (m : ℕ) (k : 0 < m) (l : 8 ≤ length bytes) where
    first :
        take m (codes_of (frames_of m) cs bytes) ≡ take (min 14 m) (frame_codes cs (take 8 bytes)) ++ take (m - 14)
        (codes_of (frames_of (m - 14)) cs (drop 8 bytes))
    first =
        ap (λ (f : ℕ). take m (codes_of f cs bytes)) one_more
        ∙ take_over (frame_codes cs (take 8 bytes)) (codes_of (frames_of (m - 14)) cs (drop 8 bytes)) m
        (frame_long cs (take 8 bytes) (length-take-le 8 bytes l))
      where
        one_more : frames_of m ≡ suc (frames_of (m - 14))
        one_more = omega arith

    pub samples_off : decoded_samples sample cs h bytes m
        ≡ samples_of sample h (take (min 14 m) (frame_codes cs (take 8 bytes)))
        ++ decoded_samples sample cs (history_after sample h (take (min 14 m) (frame_codes cs (take 8 bytes)))) (drop 8 bytes) (m - 14)
    samples_off =
        ap (samples_of sample h) first ∙ samples_append h (take (min 14 m) (frame_codes cs (take 8 bytes)))
        (take (m - 14) (codes_of (frames_of (m - 14)) cs (drop 8 bytes)))

    pub history_off : decoded_history sample cs h bytes m
        ≡ decoded_history sample cs (history_after sample h (take (min 14 m) (frame_codes cs (take 8 bytes)))) (drop 8 bytes) (m - 14)
    history_off =
        ap (history_after sample h) first
        ∙ history_append h (take (min 14 m) (frame_codes cs (take 8 bytes)))
        (take (m - 14) (codes_of (frames_of (m - 14)) cs (drop 8 bytes)))

  -- a decode makes as many samples as were asked for
  pub decoded_long :
      (cs : List ℤ) (h : History) (bytes : List ℕ) (count : ℕ) → length bytes ≡ frames_of count * 8
      → length (decoded_samples sample cs h bytes count) ≡ count
  decoded_long cs h bytes count e =
      length_samples h (take count (codes_of (frames_of count) cs bytes))
      ∙ length-take-le count (codes_of (frames_of count) cs bytes) (omega (arith, codes_long (frames_of count) cs bytes (le_of_eq (sym e))))
