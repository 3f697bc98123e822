-- A frame holds the samples that were produced, and 0 past them: storing one more at its place is the frame of one sample more. By taking
-- the frame apart at that place. Assumes nothing.
use mathlib.Core.Path.{◌≡◌, refl, sym, ap, ◌∙◌}
use mathlib.Core.List.{List, [], ◌∷◌, ◌++◌, flat_map, append_assoc, append-nil}
use Prim.Native.Nat.{ℕ, zero, suc, ◌+◌, ◌-◌, ◌*◌, ◌≤◌, ◌<◌}
use native.Mathlib.Omega.{arith}
use lib.IntN.{ℤ, pos}
use lib.ListN.{length, set, replicate, length-append, length-replicate}
use lib.Seq.{append_snoc, set_at}
use Rattle.lists.proofs.Chunks.{length_chunks}
use Rattle.steps.specs.declared.step.Cursor.{Cursor}
use Rattle.steps.specs.Stretch.{after}
use Rattle.samples.specs.declared.Sample.{Sample}
use Rattle.track.specs.declared.Track.{Track}
use Rattle.track.specs.Track.{sound_of}
use Rattle.track.specs.Laid.{put, laid}
use Rattle.play.specs.Play.{sides, frame_of}

-- the values of so many samples
pub values_long : (samples : List Sample) → length (flat_map sides samples) ≡ length samples * 2
values_long samples = length_chunks sides 2 (λ s. refl) samples

pub values_more : (samples : List Sample) (s : Sample) → flat_map sides (samples ++ (s ∷ [])) ≡ flat_map sides samples ++ sides s
unfolding flat_map
values_more [] s = append-nil (sides s)
values_more (x ∷ samples) s = ap (λ (l : List ℤ). x.left ∷ x.right ∷ l) (values_more samples s)

-- two stores, one behind the other
two_stores : (front rest : List ℤ) (a b x y : ℤ) (k : ℕ) → length front ≡ k
    → set (set (front ++ (x ∷ y ∷ rest)) k a) (k + 1) b ≡ front ++ (a ∷ b ∷ rest)
two_stores front rest a b x y k e =
    let long : length (front ++ (a ∷ [])) ≡ k + 1 = length-append front (a ∷ []) ∙ ap (λ (n : ℕ). n + 1) e in
    ap (λ (l : List ℤ). set l (k + 1) b) (set_at front x (y ∷ rest) a k e ∙ sym (append_snoc front a (y ∷ rest)))
    ∙ set_at (front ++ (a ∷ [])) y rest b (k + 1) long
    ∙ append_snoc front a (b ∷ rest)

pub put_frame : (samples : List Sample) (s : Sample) → length samples < 160
    → put (frame_of samples) (length samples) s ≡ frame_of (samples ++ (s ∷ []))
unfolding put frame_of
put_frame samples s h =
    let n = length samples in
    let front = flat_map sides samples in
    let r = 318 - n * 2 in
    let room : 320 - n * 2 ≡ suc (suc r) = omega arith in
    let more : length (samples ++ (s ∷ [])) ≡ n + 1 = length-append samples (s ∷ []) in
    let less : 320 - length (samples ++ (s ∷ [])) * 2 ≡ r = omega (arith, more) in
    ap (λ (k : ℕ). set (set (front ++ replicate k (pos 0)) (n * 2) s.left) (n * 2 + 1) s.right) room
    ∙ two_stores front (replicate r (pos 0)) s.left s.right (pos 0) (pos 0) (n * 2) (values_long samples)
    ∙ sym (append_assoc front (sides s) (replicate r (pos 0)))
    ∙ sym (λ i. values_more samples s i ++ replicate (less i) (pos 0))

pub frame_long : (samples : List Sample) → length samples ≤ 160 → length (frame_of samples) ≡ 320
unfolding frame_of
frame_long samples h =
    let values = values_long samples in
    let zeros = length-replicate (320 - length samples * 2) (pos 0) in
    length-append (flat_map sides samples) (replicate (320 - length samples * 2) (pos 0)) ∙ omega arith

pub frame_none : frame_of [] ≡ replicate 320 (pos 0)
unfolding frame_of flat_map
frame_none = refl

-- ---- a stretch of an entry

module _ (window : List ℕ) (base : ℕ) (lane : List ℤ) (t : Track) (c : Cursor) where
  -- the samples that an entry gives from a cursor on
  unfoldable pub heard : ℕ → List Sample
  heard zero = []
  heard (suc n) = heard n ++ (sound_of window base lane t (after t.rate n c) ∷ [])

  pub heard_long : (n : ℕ) → length (heard n) ≡ n
  unfolding heard
  heard_long zero = refl
  heard_long (suc n) =
      let e = length-append (heard n) (sound_of window base lane t (after t.rate n c) ∷ []) in
      omega (arith, e, heard_long n)

  pub laid_frame : (samples : List Sample) (n : ℕ) → length samples + n ≤ 160
      → laid window base lane t c (length samples) n (frame_of samples) ≡ frame_of (samples ++ heard n)
  unfolding laid heard
  laid_frame samples zero h = ap frame_of (sym (append-nil samples))
  laid_frame samples (suc n) h =
      let s = sound_of window base lane t (after t.rate n c) in
      let fewer : length samples + n ≤ 160 = omega arith in
      let here : length samples + n ≡ length (samples ++ heard n) = omega (arith, length-append samples (heard n), heard_long n) in
      let room : length (samples ++ heard n) < 160 = omega (arith, here) in
      (λ i. put (laid_frame samples n fewer i) (here i) s)
      ∙ put_frame (samples ++ heard n) s room
      ∙ ap frame_of (append_assoc samples (heard n) (s ∷ []))
