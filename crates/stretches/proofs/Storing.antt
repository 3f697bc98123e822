-- Samples stored one after the other: one more, how long the frame stays, what is found there again, and that a track's samples stored so
-- are what `laid` says. By induction on how many. Assumes nothing.
use mathlib.Core.Path.{◌≡◌, refl, sym, ap, ◌∙◌}
use mathlib.Core.Logic.{⊎_elim}
use mathlib.Core.List.{List}
use Prim.Native.Nat.{ℕ, zero, suc, ◌+◌, ◌*◌, ◌≤◌, ◌<◌}
use native.Mathlib.Nat.{ne_of_lt}
use native.Mathlib.Numerals.{add-one}
use native.Mathlib.Omega.{arith}
use lib.IntN.{ℤ, pos}
use lib.ListN.{length, set, length-set}
use lib.Seq.{get_or-set_same, get_or-set_other}
use Rattle.lists.proofs.Walk.{below_or}
use Rattle.samples.specs.declared.Sample.{Sample}
use Rattle.steps.specs.declared.step.Cursor.{Cursor}
use Rattle.steps.specs.Stretch.{after}
use Rattle.track.specs.Track.{sound_of}
use Rattle.track.specs.Laid.{put, laid}
use Rattle.track.specs.declared.Track.{Track}
use Rattle.track.proofs.Onward.{put_length}
use Rattle.stretches.specs.Stored.{stored, stored_at}

module _ (samples : ℕ → Sample) (output : ℕ) (frame : List ℤ) where
  pub stored_none : frame ≡ stored samples output 0 frame
  unfolding stored
  stored_none = refl

  pub stored_next : (n : ℕ) → put (stored samples output n frame) (output + n) (samples n) ≡ stored samples output (n + 1) frame
  unfolding stored
  stored_next n = sym (ap (λ (k : ℕ). stored samples output k frame) (add-one n))

  pub stored_length : (n : ℕ) → length (stored samples output n frame) ≡ length frame
  unfolding stored
  stored_length zero = refl
  stored_length (suc n) = put_length _ _ _ ∙ stored_length n

  -- a turn of a loop that stores
  pub stored_turn : (n : ℕ) (before after : List ℤ) (s : Sample) (k : ℕ) → k ≡ output + n
      → before ≡ stored samples output n frame → s ≡ samples n → after ≡ put before k s → after ≡ stored samples output (n + 1) frame
  stored_turn n before after s k p b e a = a ∙ (λ i. put (b i) (p i) (e i)) ∙ stored_next n

  -- the same samples
  pub stored_same : (others : ℕ → Sample) (n : ℕ) → ((i : ℕ) → i < n → samples i ≡ others i)
      → stored samples output n frame ≡ stored others output n frame
  unfolding stored
  stored_same others zero h = refl
  stored_same others (suc n) h =
      λ i. put (stored_same others n (λ j l. h j (omega arith)) i) (output + n) (h n (omega arith) i)

  -- what a track gives from a cursor on
  pub stored_laid : (window : List ℕ) (base : ℕ) (lane : List ℤ) (t : Track) (c : Cursor) (n : ℕ)
      → ((i : ℕ) → i < n → samples i ≡ sound_of window base lane t (after t.rate i c))
      → stored samples output n frame ≡ laid window base lane t c output n frame
  unfolding stored laid
  stored_laid window base lane t c zero h = refl
  stored_laid window base lane t c (suc n) h =
      λ i. put (stored_laid window base lane t c n (λ j l. h j (omega arith)) i) (output + n) (h n (omega arith) i)

-- ---- what was stored is found there

found_here : (frame : List ℤ) (k : ℕ) (s : Sample) → k * 2 + 1 < length frame → stored_at (put frame k s) k ≡ s
unfolding put
found_here frame k s h =
    let e : k * 2 < k * 2 + 1 = omega arith in
    let a : k * 2 < length frame = omega arith in
    let b : k * 2 + 1 < length (set frame (k * 2) s.left) = rw (length-set frame (k * 2) s.left) h in
    let left = get_or-set_other (set frame (k * 2) s.left) (k * 2 + 1) (k * 2) s.right (pos 0) (ne_of_lt e)
    ∙ get_or-set_same frame (k * 2) s.left (pos 0) a in
    let right = get_or-set_same (set frame (k * 2) s.left) (k * 2 + 1) s.right (pos 0) b in
    λ i. record { left = left i; right = right i }

found_before : (frame : List ℤ) (k j : ℕ) (s : Sample) → j < k → stored_at (put frame k s) j ≡ stored_at frame j
unfolding put
found_before frame k j s h =
    let e0 : j * 2 < k * 2 = omega arith in
    let e1 : j * 2 < k * 2 + 1 = omega arith in
    let e2 : j * 2 + 1 < k * 2 = omega arith in
    let e3 : j * 2 + 1 < k * 2 + 1 = omega arith in
    let left = get_or-set_other (set frame (k * 2) s.left) (k * 2 + 1) (j * 2) s.right (pos 0) (ne_of_lt e1)
    ∙ get_or-set_other frame (k * 2) (j * 2) s.left (pos 0) (ne_of_lt e0) in
    let right = get_or-set_other (set frame (k * 2) s.left) (k * 2 + 1) (j * 2 + 1) s.right (pos 0) (ne_of_lt e3)
    ∙ get_or-set_other frame (k * 2) (j * 2 + 1) s.left (pos 0) (ne_of_lt e2) in
    λ i. record { left = left i; right = right i }

pub found : (samples : ℕ → Sample) (frame : List ℤ) (n : ℕ) → length frame ≡ 320 → n ≤ 160
    → (i : ℕ) → i < n → stored_at (stored samples 0 n frame) i ≡ samples i
unfolding stored
found samples frame zero l m i h = absurd (omega arith)
found samples frame (suc n) l m i h =
    ⊎_elim (λ b. old b (found samples frame n l (omega arith) i b)) (λ b. new (same b)) (below_or i n)
  where
    same : n ≤ i → i ≡ n
    same b = omega arith

    old : i < n → stored_at (stored samples 0 n frame) i ≡ samples i
        → stored_at (put (stored samples 0 n frame) (0 + n) (samples n)) i ≡ samples i
    old b e = found_before _ (0 + n) i (samples n) (omega arith) ∙ e

    new : i ≡ n → stored_at (put (stored samples 0 n frame) (0 + n) (samples n)) i ≡ samples i
    new e =
        let k : i ≡ 0 + n = omega arith in
        ap (stored_at (put (stored samples 0 n frame) (0 + n) (samples n))) k
        ∙ found_here _ (0 + n) (samples n) (omega (arith, stored_length samples 0 frame n)) ∙ ap samples (sym e)
