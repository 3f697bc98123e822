-- One stretch of an entry after another is one stretch, and a single sample is one: the cursors, the frame, and that something remains on
-- the way. By `after_add` of steps. Assumes nothing.
use mathlib.Core.Path.{◌≡◌, refl, sym, ap, ◌∙◌, subst}
use mathlib.Core.Logic.{◌⊎◌, inl, inr, ⊎_elim}
use mathlib.Core.List.{List}
use Prim.Native.Nat.{ℕ, zero, suc, ◌+◌, ◌-◌, ◌≤◌, ◌<◌}
use native.Mathlib.Numerals.{add-one}
use native.Mathlib.Omega.{arith}
use lib.IntN.{ℤ}
use lib.ListN.{length, length-set}
use Rattle.lists.proofs.Walk.{below_or}
use Rattle.steps.specs.declared.step.Cursor.{Cursor}
use Rattle.steps.specs.declared.stretch.Reached.{Reached}
use Rattle.steps.specs.Step.{moved}
use Rattle.steps.specs.Stretch.{after}
use Rattle.steps.proofs.Compose.{after_add}
use Rattle.samples.specs.declared.Sample.{Sample}
use Rattle.track.specs.declared.Track.{Track}
use Rattle.track.specs.Track.{sound_of}
use Rattle.track.specs.Laid.{put, laid, Onward, Turned}

-- one step
pub after_one : (t : Track) (c : Cursor) → after t.rate 1 c ≡ moved t.rate c
unfolding after
after_one t c = refl

pub after_none : (t : Track) (c : Cursor) → after t.rate 0 c ≡ c
unfolding after
after_none t c = refl

pub after_suc : (t : Track) (c : Cursor) (n : ℕ) → after t.rate (suc n) c ≡ moved t.rate (after t.rate n c)
unfolding after
after_suc t c n = refl

pub put_length : (frame : List ℤ) (k : ℕ) (s : Sample) → length (put frame k s) ≡ length frame
unfolding put
put_length frame k s = simp length-set

module _ (window : List ℕ) (base : ℕ) (lane : List ℤ) (t : Track) where
  pub laid_length : (c : Cursor) (output n : ℕ) (frame : List ℤ) → length (laid window base lane t c output n frame) ≡ length frame
  unfolding laid
  laid_length c output zero frame = refl
  laid_length c output (suc n) frame = put_length _ _ _ ∙ laid_length c output n frame

  pub laid_none : (c : Cursor) (output : ℕ) (frame : List ℤ) → laid window base lane t c output 0 frame ≡ frame
  unfolding laid
  laid_none c output frame = refl

  -- one sample more
  pub laid_more : (c : Cursor) (output n : ℕ) (frame : List ℤ)
      → laid window base lane t c output (n + 1) frame
      ≡ put (laid window base lane t c output n frame) (output + n) (sound_of window base lane t (after t.rate n c))
  unfolding laid
  laid_more c output n frame = ap (λ (k : ℕ). laid window base lane t c output k frame) (add-one n)

  pub laid_add : (c : Cursor) (output n m : ℕ) (frame : List ℤ)
      → laid window base lane t (after t.rate n c) (output + n) m (laid window base lane t c output n frame)
      ≡ laid window base lane t c output (n + m) frame
  unfolding laid
  laid_add c output n zero frame =
      let e : n ≡ n + 0 = omega arith in
      ap (λ (k : ℕ). laid window base lane t c output k frame) e
  laid_add c output n (suc m) frame =
      let e : output + n + m ≡ output + (n + m) = omega arith in
      let next : suc (n + m) ≡ n + suc m = omega arith in
      (λ i. put (laid_add c output n m frame i) (e i) (sound_of window base lane t (after_add t.rate c n m i)))
      ∙ ap (λ (k : ℕ). laid window base lane t c output k frame) next

-- ---- how far

module _ (t : Track) (c : Cursor) (room : ℕ) where
  -- nothing yet
  pub onward_none : Onward t c room (record { cursor = c; count = 0 })
  onward_none = record { count_most = omega arith; cursor_is = sym (after_none t c); inside = λ j h. omega arith }

  -- what remains so many samples on from a cursor on the way
  from_there : (n : ℕ) (at : Cursor) → at ≡ after t.rate n c → (j : ℕ) → n ≤ j → 0 < (after t.rate (suc (j - n)) at).remaining
      → 0 < (after t.rate (suc j) c).remaining
  from_there n at e j l p =
      let sum : n + suc (j - n) ≡ suc j = omega arith in
      subst (λ (k : ℕ). 0 < (after t.rate k c).remaining) sum
      (subst (λ (d : Cursor). 0 < d.remaining) (after_add t.rate c n (suc (j - n)))
      (subst (λ (d : Cursor). 0 < (after t.rate (suc (j - n)) d).remaining) e p))

  -- a stretch after another
  pub onward_add : (n : ℕ) (at : Cursor) (r : Reached) → Onward t c room (record { cursor = at; count = n }) → Onward t at (room - n) r
      → Onward t c room (record { cursor = r.cursor; count = n + r.count })
  onward_add n at r a b = record {
    count_most = omega (arith, a.count_most, b.count_most);
    cursor_is = b.cursor_is ∙ ap (after t.rate r.count) a.cursor_is ∙ after_add t.rate c n r.count;
    inside = λ j h. ⊎_elim (λ l. a.inside j l)
        (λ l. from_there n at a.cursor_is j l (b.inside (j - n) (omega arith))) (below_or j n);
  }

  -- a turn after a stretch
  pub turned_add : (n : ℕ) (at : Cursor) (r : Reached) → Onward t c room (record { cursor = at; count = n }) → Turned t at (room - n) r
      → Turned t c room (record { cursor = r.cursor; count = n + r.count })
  turned_add n at r a b = record {
    some = omega (arith, b.some);
    count_most = omega (arith, a.count_most, b.count_most);
    cursor_is = b.cursor_is ∙ ap (after t.rate r.count) a.cursor_is ∙ after_add t.rate c n r.count;
    inside = λ j h. ⊎_elim (λ l. a.inside j l)
        (λ l. from_there n at a.cursor_is j l (b.inside (j - n) (omega arith))) (below_or j n);
    ended = ⊎_elim (λ e. inl (omega (arith, e, a.count_most))) (λ e. inr e) b.ended;
  }

  -- one sample more, where something remains after it
  pub onward_more : (n : ℕ) (at : Cursor) → Onward t c room (record { cursor = at; count = n }) → n < room
      → 0 < (moved t.rate at).remaining
      → Onward t c room (record { cursor = moved t.rate at; count = n + 1 })
  onward_more n at a h p =
      onward_add n at (record { cursor = moved t.rate at; count = 1 }) a
      (record {
        count_most = omega arith;
        cursor_is = sym (after_one t at);
        inside = λ j l. let e : 1 ≡ suc j = omega arith in subst (λ (k : ℕ). 0 < (after t.rate k at).remaining) e
            (subst (λ (d : Cursor). 0 < d.remaining) (sym (after_one t at)) p);
      })

  -- one sample more, and there is no room or nothing remains after it
  pub turned_last : (n : ℕ) (at : Cursor) → Onward t c room (record { cursor = at; count = n }) → n < room
      → (n + 1 ≡ room) ⊎ ((moved t.rate at).remaining ≡ 0)
      → Turned t c room (record { cursor = moved t.rate at; count = n + 1 })
  turned_last n at a h e = record {
    some = omega arith;
    count_most = omega arith;
    cursor_is = ap (moved t.rate) a.cursor_is ∙ sym (after_suc t c n) ∙ ap (λ (k : ℕ). after t.rate k c) one;
    inside = λ j l. a.inside j (omega arith);
    ended = e;
  }
    where
      one : suc n ≡ n + 1
      one = omega arith

  -- a stretch that fills the room is a turn
  pub turned_full : (n : ℕ) (at : Cursor) → Onward t c room (record { cursor = at; count = n }) → n ≡ room → 0 < room
      → Turned t c room (record { cursor = at; count = n })
  turned_full n at a e h = record {
    some = omega arith;
    count_most = a.count_most;
    cursor_is = a.cursor_is;
    inside = λ j l. a.inside j (omega arith);
    ended = inl e;
  }
