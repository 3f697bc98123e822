-- A frame goes on a sample at a time: by what `next` does, and that a turn of an entry is so many samples of the definition. Assumes
-- nothing.
use mathlib.Core.Path.{◌≡◌, refl, sym, ap, ◌∙◌}
use mathlib.Core.Bool.{true, false}
use mathlib.Core.List.{List, ◌++◌, append_assoc, append-nil}
use Prim.Native.Nat.{ℕ, zero, suc, ◌+◌, ◌<◌}
use native.Mathlib.Omega.{arith}
use borrow.Author.Tests.{eq-eqb, ne_eqb}
use Rattle.lists.proofs.Bools.{cond_yes, cond_no}
use Rattle.steps.specs.declared.stretch.Reached.{Reached}
use Rattle.steps.specs.Stretch.{after}
use Rattle.samples.specs.declared.Sample.{Sample}
use Rattle.dequeue.specs.Dequeue.{dequeued}
use Rattle.track.specs.Track.{track_of, cursor_of}
use Rattle.track.specs.Laid.{Turned}
use Rattle.play.specs.Play.{Midst, at, sounded, begun_next, next, onward}
use Rattle.play.proofs.Laying.{heard}

module _ (window : List ℕ) (base : ℕ) where
  -- ---- one sample more

  module _ (m : Midst) where
    pub next_plays : (m.voice.remaining ≡ 0 → ⊥) → next window base m ≡ sounded window base m
    unfolding next
    next_plays h = cond_no _ _ (ne_eqb _ _ h)

    pub next_begins :
        m.voice.remaining ≡ 0 → (dequeued window base m.voice).found ≡ true
        → next window base m ≡ sounded window base (begun_next window base m)
    unfolding next
    next_begins h f = cond_yes _ _ (eq-eqb _ _ h) ∙ cond_yes _ _ f

    pub next_still : m.voice.remaining ≡ 0 → (dequeued window base m.voice).found ≡ false → next window base m ≡ m
    unfolding next
    next_still h f = cond_yes _ _ (eq-eqb _ _ h) ∙ cond_no _ _ f

  -- ---- several

  pub onward_none : (m : Midst) → onward window base 0 m ≡ m
  unfolding onward
  onward_none m = refl

  pub onward_still : (m : Midst) → next window base m ≡ m → (n : ℕ) → onward window base n m ≡ m
  unfolding onward
  onward_still m e zero = refl
  onward_still m e (suc n) = ap (next window base) (onward_still m e n) ∙ e

  pub onward_add : (m : Midst) (a b : ℕ) → onward window base b (onward window base a m) ≡ onward window base (a + b) m
  unfolding onward
  onward_add m a zero =
      let e : a ≡ a + 0 = omega arith in
      ap (λ (k : ℕ). onward window base k m) e
  onward_add m a (suc b) =
      let e : suc (a + b) ≡ a + suc b = omega arith in
      ap (next window base) (onward_add m a b) ∙ ap (λ (k : ℕ). onward window base k m) e

  -- ---- of one entry

  -- where a voice is after n samples of the entry at hand
  abbrev pub along : Midst → ℕ → Midst
  along m n = record {
    voice = at (after m.voice.rate n (cursor_of m.voice)) m.voice;
    lane = m.lane;
    samples = m.samples ++ heard window base m.lane (track_of m.voice) (cursor_of m.voice) n;
    dequeues = m.dequeues;
  }

  along_none : (m : Midst) → m ≡ along m 0
  unfolding after heard
  along_none m = ap (λ (l : List Sample). record { voice = m.voice; lane = m.lane; samples = l; dequeues = m.dequeues })
      (sym (append-nil m.samples))

  along_more : (m : Midst) (n : ℕ) → sounded window base (along m n) ≡ along m (suc n)
  unfolding sounded after heard
  along_more m n = ap
      (λ (l : List Sample). record {
        voice = at (after m.voice.rate (suc n) (cursor_of m.voice)) m.voice;
        lane = m.lane;
        samples = l;
        dequeues = m.dequeues;
      })
      (append_assoc m.samples _ _)

  -- A turn of an entry: the first sample is that of m, whose entry is at hand, and something remains before each of the others.
  onward_along : (m m₀ : Midst) → next window base m ≡ sounded window base m₀ → (n : ℕ)
      → ((j : ℕ) → j < n → 0 < (after m₀.voice.rate (suc j) (cursor_of m₀.voice)).remaining)
      → onward window base (suc n) m ≡ along m₀ (suc n)
  unfolding onward
  onward_along m m₀ e zero h = e ∙ ap (sounded window base) (along_none m₀) ∙ along_more m₀ 0
  onward_along m m₀ e (suc n) h =
      let before = onward_along m m₀ e n (λ j l. h j (omega arith)) in
      let some = h n (omega arith) in
      ap (next window base) before ∙ next_plays (along m₀ (suc n)) (λ z. omega (arith, some, z)) ∙ along_more m₀ (suc n)

  pub onward_turned : (m m₀ : Midst) (room : ℕ) (r : Reached) → next window base m ≡ sounded window base m₀
      → Turned (track_of m₀.voice) (cursor_of m₀.voice) room r
      → onward window base r.count m ≡ along m₀ r.count
  onward_turned m m₀ room r e t = by r.count refl
    where
      by : (n : ℕ) → n ≡ r.count → onward window base n m ≡ along m₀ n
      by zero z = absurd (omega (arith, t.some, z))
      by (suc n) z = onward_along m m₀ e n (λ j l. t.inside j (omega (arith, z, l)))
