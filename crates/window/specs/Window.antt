-- A window on memory: bytes, and the address of the first. Assumes nothing: these are definitions; `window_exactly` and `looked_up` of
-- proofs/Bytes.antt prove the two statements.
use Rattle.std.specs.Prelude.{◌≡◌, ◌↔◌, ℕ, ◌+◌, ◌-◌, ◌^◌, ◌≤◌, ◌<◌, Bool, true, ◌&&◌, ◌||◌, cond, List, [], eqb, ltb, leb, length, get_or}
use Rattle.lists.specs.Splice.{part}

-- 4: "window base + length exceeds 2^32"
abbrev pub window_number : ℕ → ℕ → ℕ
window_number base size = cond (ltb (2 ^ 32) (base + size)) 4 0

-- 4 is given exactly if its sentence holds, and 0 exactly if it does not.
pub record WindowExactly (base size : ℕ) : Type 0 where
  pub four : window_number base size ≡ 4 ↔ 2 ^ 32 < base + size
  pub none : window_number base size ≡ 0 ↔ (2 ^ 32 < base + size → ⊥)

-- "Present means every byte asked for lies inside": the `count` bytes from `address` on, in a window of `size` bytes at `base`
abbrev pub present_in : ℕ → ℕ → ℕ → ℕ → Bool
present_in size base address count = eqb count 0 || (leb base address && leb (address + count) (base + size))

-- "The look-up hands back the part of the caller's window": the bytes asked for, or none where some are absent
abbrev pub look_up : List ℕ → ℕ → ℕ → ℕ → List ℕ
look_up window base address count = cond (present_in (length window) base address count) (part (address - base) count window) []

-- the byte of an address lies in a window of `size` bytes at `base`
abbrev pub LiesInside : ℕ → ℕ → ℕ → Type 0
LiesInside size base address = (base ≤ address) × (address < base + size)

-- each of the `count` bytes from `address` on lies in it
abbrev pub AllInside : ℕ → ℕ → ℕ → ℕ → Type 0
AllInside size base address count = (k : ℕ) → k < count → LiesInside size base (address + k)

-- the window's byte of an address
abbrev pub byte_of : List ℕ → ℕ → ℕ → ℕ
byte_of window base address = get_or window (address - base) 0

-- What the look-up means, byte by byte.
pub record LookedUp (window : List ℕ) (base address count : ℕ) : Type 0 where
  pub present : present_in (length window) base address count ≡ true ↔ AllInside (length window) base address count
  -- where each byte lies inside: as many as were asked for, each the window's of its address
  pub long : AllInside (length window) base address count → length (look_up window base address count) ≡ count
  pub bytes :
      AllInside (length window) base address count
      → (k : ℕ) → k < count → get_or (look_up window base address count) k 0 ≡ byte_of window base (address + k)
  -- otherwise none
  pub absent : (AllInside (length window) base address count → ⊥) → look_up window base address count ≡ []
