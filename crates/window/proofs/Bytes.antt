-- When number 4 is given, and what the look-up means byte by byte: the test of the two ends says the same of every byte between. Assumes
-- nothing.
use mathlib.Core.Path.{◌≡◌, refl, sym, ap, ◌∙◌}
use mathlib.Core.Bool.{true, false}
use mathlib.Core.List.{List, [], ◌∷◌}
use mathlib.Core.Logic.{⊎_elim, ◌↔◌}
use Prim.Native.Nat.{ℕ, ◌+◌, ◌-◌, ◌^◌, ◌≤◌, ◌<◌}
use native.Mathlib.Omega.{arith}
use lib.Dec.{ltb, leb, lit<}
use lib.ListN.{length, get_or}
use borrow.Author.Tests.{eq-eqb, ne_eqb, le-leb, lt-leb, leb-true, ltb-true, lt-ltb}
use Rattle.lists.specs.Splice.{part}
use Rattle.lists.proofs.Splice.{length_part, part_at}
use Rattle.lists.proofs.Walk.{below_or}
use Rattle.lists.proofs.Bools.{or_no, or_yes, and_no, and_yes, and_both, cond_yes, cond_no}
use Rattle.lists.specs.Lowest.{rule, Given}
use Rattle.lists.proofs.Lowest.{fails_if, lowest_given}
use Rattle.window.specs.Window.{WindowExactly, present_in, look_up, LiesInside, AllInside, byte_of, LookedUp}

pub window_exactly : (base size : ℕ) → WindowExactly base size
window_exactly base size = record {
  four = (λ e. says.0 ((only.given 0 (lit< tt)).0 e), λ h. (only.given 0 (lit< tt)).1 (says.1 h));
  none = (λ e. (fails_if _ says).0 (only.nothing.0 e).0, λ n. only.nothing.1 ((fails_if _ says).1 n, tt));
}
  where
    -- the number is that of a list of one rule
    only : Given (rule (ltb (2 ^ 32) (base + size)) 4 ∷ [])
    only = lowest_given (rule (ltb (2 ^ 32) (base + size)) 4 ∷ []) refl

    says : (ltb (2 ^ 32) (base + size) ≡ true) ↔ (2 ^ 32 < base + size)
    says = (ltb-true (2 ^ 32) (base + size), lt-ltb (2 ^ 32) (base + size))

module _ (size base address count : ℕ) where
  -- the cases of being present: nothing is asked for; the address lies before the window; it does not
  pub nothing : count ≡ 0 → present_in size base address count ≡ true
  nothing e = or_yes _ (eq-eqb count 0 e)

  pub before : (count ≡ 0 → ⊥) → address < base → present_in size base address count ≡ false
  before n h = or_no _ (ne_eqb count 0 n) ∙ and_no _ (lt-leb base address h)

  pub from : (count ≡ 0 → ⊥) → base ≤ address → present_in size base address count ≡ leb (address + count) (base + size)
  from n h = or_no _ (ne_eqb count 0 n) ∙ and_yes _ (le-leb base address h)

  -- of some bytes: they lie inside
  pub inside : present_in size base address count ≡ true → (count ≡ 0 → ⊥) → (base ≤ address) × (address + count ≤ base + size)
  inside t n =
      let b = and_both (leb base address) (leb (address + count) (base + size)) (sym (or_no _ (ne_eqb count 0 n)) ∙ t) in
      (leb-true base address b.0, leb-true (address + count) (base + size) b.1)

  -- present: each byte asked for lies in the window
  pub each : present_in size base address count ≡ true → AllInside size base address count
  each t k h = let i = inside t (λ e. some e h) in (omega arith, omega arith)
    where
      some : count ≡ 0 → k < count → ⊥
      some e h = omega arith

module _ (window : List ℕ) (base address count : ℕ) where
  -- the cases of the look-up: nothing is asked for; some of it is absent; all is there
  pub none_asked : count ≡ 0 → [] ≡ look_up window base address count
  none_asked e = sym (cond_yes _ _ (nothing (length window) base address count e) ∙ ap (λ (n : ℕ). part (address - base) n window) e)

  pub absent : present_in (length window) base address count ≡ false → [] ≡ look_up window base address count
  absent t = sym (cond_no _ _ t)

  pub there : present_in (length window) base address count ≡ true → part (address - base) count window ≡ look_up window base address count
  there t = sym (cond_yes _ _ t)

-- and where each byte asked for lies in the window, they are present
pub present_if : (size base address count : ℕ) → AllInside size base address count → present_in size base address count ≡ true
present_if size base address count f = ⊎_elim (λ h. some h) (λ h. nothing size base address count (omega arith)) (below_or 0 count)
  where
    some : 0 < count → present_in size base address count ≡ true
    some h =
        let first = f 0 h in
        let last = f (count - 1) (omega arith) in
        from size base address count (λ e. omega arith) (omega arith) ∙ le-leb (address + count) (base + size) (omega arith)

module _ (window : List ℕ) (base address count : ℕ) where
  -- what is there is as long as was asked
  pub there_long : present_in (length window) base address count ≡ true → length (look_up window base address count) ≡ count
  there_long t =
      ⊎_elim
      (λ h. let i = inside (length window) base address count t (λ e. omega arith) in
      ap length (sym (there window base address count t)) ∙ length_part (address - base) count window (omega arith))
      (λ h. ap length (sym (none_asked window base address count (omega arith))) ∙ zero_is h)
      (below_or 0 count)
    where
      zero_is : count ≤ 0 → 0 ≡ count
      zero_is h = omega arith

  -- and byte k of it is the window's
  there_at : present_in (length window) base address count ≡ true
      → (k : ℕ) → k < count → get_or (look_up window base address count) k 0 ≡ byte_of window base (address + k)
  there_at t k h =
      ap (λ (l : List ℕ). get_or l k 0) (sym (there window base address count t)) ∙ part_at (address - base) count window k 0 h
      ∙ ap (λ (i : ℕ). get_or window i 0) (index (each (length window) base address count t 0 (omega arith)))
    where
      index : LiesInside (length window) base (address + 0) → address - base + k ≡ address + k - base
      index i = omega arith

  pub looked_up : LookedUp window base address count
  looked_up = record {
    present = (each (length window) base address count, present_if (length window) base address count);
    long = λ f. there_long (present_if (length window) base address count f);
    bytes = λ f. there_at (present_if (length window) base address count f);
    absent =
        λ n. sym (absent window base address count
        ((fails_if _ (each (length window) base address count, present_if (length window) base address count)).1 n));
  }
