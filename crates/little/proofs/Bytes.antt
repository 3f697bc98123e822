-- A number stored in bytes is read back, and bytes read as a number are stored back: a quotient by 256 or 65536 and its remainder are the
-- number again. Reading in a part is reading in the whole. Assumes nothing.
use mathlib.Core.Path.{◌≡◌, sym, ap, ap₂, ◌∙◌}
use mathlib.Core.List.{List, [], ◌∷◌, ◌++◌}
use Prim.Native.Nat.{ℕ, ◌+◌, ◌*◌, ◌/◌, ◌%◌, ◌≤◌, ◌<◌}
use native.Mathlib.Nat.{add_assoc}
use native.Mathlib.Omega.{arith}
use lib.ListN.{length, get_or}
use Rattle.lists.specs.Splice.{part, splice}
use Rattle.lists.proofs.Splice.{part_at, part_splice}
use Rattle.little.specs.Little.{at16, at32, at_dsp32, bytes16, bytes32, dsp32_bytes}

-- ---- a number's bytes, read

pub read_bytes16 : (n : ℕ) → at16 (bytes16 n) 0 ≡ n
read_bytes16 n = omega arith

pub read_bytes32 : (n : ℕ) → at32 (bytes32 n) 0 ≡ n
read_bytes32 n = omega arith

pub read_dsp32_bytes : (n : ℕ) → at_dsp32 (dsp32_bytes n) 0 ≡ n
read_dsp32_bytes n = omega arith

-- ---- bytes read, as bytes

pub bytes16_read : (w x : ℕ) → w < 256 → x < 256 → bytes16 (at16 (w ∷ x ∷ []) 0) ≡ w ∷ x ∷ []
bytes16_read w x a b = ap₂ (λ (i j : ℕ). i ∷ j ∷ []) (omega arith) (omega arith)

-- the higher and the lower half of a number made of two
upper : (high low : ℕ) → low < 65536 → (high * 65536 + low) / 65536 ≡ high
upper high low h = omega arith

lower : (high low : ℕ) → low < 65536 → (high * 65536 + low) % 65536 ≡ low
lower high low h = omega arith

module _ (w x y z : ℕ) (a : w < 256) (b : x < 256) (c : y < 256) (d : z < 256) where
  pub bytes32_read : bytes32 (at32 (w ∷ x ∷ y ∷ z ∷ []) 0) ≡ w ∷ x ∷ y ∷ z ∷ []
  bytes32_read =
      ap₂ (λ (i j : ℕ). bytes16 i ++ bytes16 j) (lower (z * 256 + y) (x * 256 + w) (omega arith))
      (upper (z * 256 + y) (x * 256 + w) (omega arith))
      ∙ ap₂ (λ (i j : List ℕ). i ++ j) (bytes16_read w x a b) (bytes16_read y z c d)

  pub dsp32_bytes_read : dsp32_bytes (at_dsp32 (w ∷ x ∷ y ∷ z ∷ []) 0) ≡ w ∷ x ∷ y ∷ z ∷ []
  dsp32_bytes_read =
      ap₂ (λ (i j : ℕ). bytes16 i ++ bytes16 j) (upper (x * 256 + w) (z * 256 + y) (omega arith))
      (lower (x * 256 + w) (z * 256 + y) (omega arith))
      ∙ ap₂ (λ (i j : List ℕ). i ++ j) (bytes16_read w x a b) (bytes16_read y z c d)

-- ---- a number in a part, and in the whole

module _ (s : List ℕ) (a n k : ℕ) where
  pub part_at16 : k + 2 ≤ n → at16 (part a n s) k ≡ at16 s (a + k)
  part_at16 h =
      ap₂ (λ (i j : ℕ). i * 256 + j)
      (part_at a n s (k + 1) 0 (omega arith) ∙ ap (λ (i : ℕ). get_or s i 0) (sym (add_assoc a k 1)))
      (part_at a n s k 0 (omega arith))

module _ (s : List ℕ) (a n k : ℕ) (h : k + 4 ≤ n) where
  halves : at16 (part a n s) (k + 2) ≡ at16 s (a + k + 2)
  halves = part_at16 s a n (k + 2) (omega arith) ∙ ap (at16 s) (sym (add_assoc a k 2))

  pub part_at32 : at32 (part a n s) k ≡ at32 s (a + k)
  part_at32 = ap₂ (λ (i j : ℕ). i * 65536 + j) halves (part_at16 s a n k (omega arith))

  pub part_at_dsp32 : at_dsp32 (part a n s) k ≡ at_dsp32 s (a + k)
  part_at_dsp32 = ap₂ (λ (i j : ℕ). i * 65536 + j) (part_at16 s a n k (omega arith)) halves

-- ---- a number stored at a place, read there

module _ (s : List ℕ) (a v : ℕ) where
  at0 : a + 0 ≡ a
  at0 = omega arith

  pub read_write16 : a + 2 ≤ length s → at16 (splice s a (bytes16 v)) a ≡ v
  read_write16 h =
      ap (at16 (splice s a (bytes16 v))) (sym at0) ∙ sym (part_at16 (splice s a (bytes16 v)) a 2 0 (omega arith))
      ∙ ap (λ (l : List ℕ). at16 l 0) (part_splice a (bytes16 v) s h) ∙ read_bytes16 v

  pub read_write32 : a + 4 ≤ length s → at32 (splice s a (bytes32 v)) a ≡ v
  read_write32 h =
      ap (at32 (splice s a (bytes32 v))) (sym at0) ∙ sym (part_at32 (splice s a (bytes32 v)) a 4 0 (omega arith))
      ∙ ap (λ (l : List ℕ). at32 l 0) (part_splice a (bytes32 v) s h) ∙ read_bytes32 v

  pub read_write_dsp32 : a + 4 ≤ length s → at_dsp32 (splice s a (dsp32_bytes v)) a ≡ v
  read_write_dsp32 h =
      ap (at_dsp32 (splice s a (dsp32_bytes v))) (sym at0) ∙ sym (part_at_dsp32 (splice s a (dsp32_bytes v)) a 4 0 (omega arith))
      ∙ ap (λ (l : List ℕ). at_dsp32 l 0) (part_splice a (dsp32_bytes v) s h) ∙ read_dsp32_bytes v
