-- What is stored from places and fractions is what a track gives: a mono sample is its left value twice, what was fetched is found again,
-- and a walk notes where the cursors are. Assumes nothing.
use mathlib.Core.Path.{◌≡◌, refl, sym, ap, ◌∙◌, subst}
use mathlib.Core.Bool.{Bool, true, false, ◌&&◌, ◌||◌, not}
use mathlib.Core.Logic.{⊎_elim}
use mathlib.Core.List.{List}
use Prim.Native.Nat.{ℕ, zero, suc, ◌+◌, ◌-◌, ◌≤◌, ◌<◌}
use native.Mathlib.Numerals.{add-one}
use native.Mathlib.Omega.{arith}
use lib.IntN.{ℤ}
use lib.ListN.{length, get_or, take}
use lib.Ieee.{Float, nan, eq}
use Rattle.std.specs.List.{list_all}
use Rattle.std.proofs.Math.Seq.{take-length}
use Rattle.std.proofs.lemmas.List.{length-take-le, get_or-take}
use Rattle.std.proofs.lemmas.List.Folds.{list_all_more}
use Rattle.lists.proofs.Walk.{below_or}
use Rattle.lists.proofs.Bools.{cond_yes, clash, and_both}
use Rattle.numbers.specs.Literals.{+0, +1}
use Rattle.voice.specs.Long.{is_adpcm}
use Rattle.voice.specs.declared.record.Entry.{Entry}
use Rattle.voice.specs.declared.record.Format.{Format}
use Rattle.voice.specs.declared.record.Format.TheVariants.{Pcm8, Pcm16, Adpcm}
use Rattle.samples.specs.Samples.{both}
use Rattle.samples.specs.declared.Sample.{Sample}
use Rattle.steps.specs.declared.step.Cursor.{Cursor}
use Rattle.steps.specs.Stretch.{after, Walked}
use Rattle.steps.proofs.Whole.{after_remaining, after_zero}
use Rattle.track.specs.declared.Track.{Track}
use Rattle.stretches.specs.Source.{sample_by, sample_in, is_mono, sound_by}
use Rattle.stretches.specs.Stored.{stored, stored_at, blended, run_at, here_at, pair_at, blended_at, pair_blend}
use Rattle.stretches.specs.Stored.{noted_at, sound_after, all_zero}
use Rattle.stretches.proofs.Storing.{stored_same, found}

-- ---- both sides alike

mono_by : (lane : List ℤ) (bytes : List ℕ) (f : Format) (stereo : Bool) (p : ℕ) → (not stereo || is_adpcm f) ≡ true
    → sample_by lane bytes f stereo p ≡ both (sample_by lane bytes f stereo p).left
mono_by lane bytes Pcm8 true p h = absurd (clash (sym h))
mono_by lane bytes Pcm8 false p h = refl
mono_by lane bytes Pcm16 true p h = absurd (clash (sym h))
mono_by lane bytes Pcm16 false p h = refl
mono_by lane bytes Adpcm stereo p h = refl

mono : (lane : List ℤ) (bytes : List ℕ) (e : Entry) (p : ℕ) → is_mono e ≡ true
    → sample_in lane bytes e p ≡ both (sample_in lane bytes e p).left
unfolding is_mono sample_in
mono lane bytes e p h = mono_by lane bytes e.format e.stereo p h

module _ (lane : List ℤ) (bytes : List ℕ) (e : Entry) (places : List ℕ) (fractions : List Float) (output n : ℕ) (frame : List ℤ)
    (few : n ≤ 160)
  where
    -- what lies between the values of fetched pairs, of a mono entry
    pub pairs_between : (zeros pairs : List ℤ) → length zeros ≡ 320 → pairs ≡ stored (pair_at lane bytes e places) 0 n zeros
        → is_mono e ≡ true
        → stored (pair_blend pairs fractions) output n frame ≡ stored (blended_at lane bytes e places fractions) output n frame
    pairs_between zeros pairs long is m =
        stored_same (pair_blend pairs fractions) output frame (blended_at lane bytes e places fractions) n
        (λ i h. let at = ap (λ (l : List ℤ). stored_at l i) is ∙ found (pair_at lane bytes e places) zeros n long few i h in
        (λ j. blended (both (at j).left) (both (at j).right) (get_or fractions i nan))
        ∙ (λ j. blended (sym (mono lane bytes e (get_or places i 0) m) j) (sym (mono lane bytes e (get_or places i 0 + 1) m) j)
        (get_or fractions i nan)))

-- ---- by whether samples are taken as they are

module _ (lane : List ℤ) (bytes : List ℕ) (e : Entry) (t : Track) (places : List ℕ) (fractions : List Float) (i : ℕ) where
  pub noted_plain : (t.plain || eq (get_or fractions i nan) +0) ≡ true
      → here_at lane bytes e places i ≡ noted_at lane bytes e t places fractions i
  unfolding sound_by
  noted_plain h = sym (cond_yes _ _ h)

  pub noted_blended : t.plain ≡ false → blended_at lane bytes e places fractions i ≡ noted_at lane bytes e t places fractions i
  unfolding sound_by blended
  noted_blended h = sym (ap (λ (b : Bool). sound_by (sample_in lane bytes e) b (get_or places i 0) (get_or fractions i nan)) h)

-- each of the first fractions is 0, or one is not
zero_each : (fractions : List Float) (n : ℕ) → all_zero fractions n ≡ true → (i : ℕ) → i < n → eq (get_or fractions i nan) +0 ≡ true
unfolding all_zero
zero_each fractions zero a i h = absurd (omega arith)
zero_each fractions (suc n) a i h =
    let b = and_both (all_zero fractions n) (eq (get_or fractions n nan) +0) a in
    ⊎_elim (λ l. zero_each fractions n b.0 i l) (λ l. last l b.1) (below_or i n)
  where
    last : n ≤ i → eq (get_or fractions n nan) +0 ≡ true → eq (get_or fractions i nan) +0 ≡ true
    last l e =
        let same : n ≡ i = omega arith in
        subst (λ (k : ℕ). eq (get_or fractions k nan) +0 ≡ true) same e

-- the first fractions, as a list
zero_first : (fractions : List Float) (n : ℕ) → n ≤ length fractions
    → all_zero fractions n ≡ list_all (λ f. eq f +0) (take n fractions)
unfolding all_zero
zero_first fractions zero h = refl
zero_first fractions (suc n) h =
    ap (λ (b : Bool). b && eq (get_or fractions n nan) +0) (zero_first fractions n (omega arith))
    ∙ sym (list_all_more (λ f. eq f +0) fractions n nan (omega arith))
    ∙ ap (λ (k : ℕ). list_all (λ f. eq f +0) (take k fractions)) (add-one n)

-- and all of them
pub zero_listed : (fractions : List Float) → all_zero fractions (length fractions) ≡ list_all (λ f. eq f +0) fractions
zero_listed fractions =
    zero_first fractions (length fractions) (omega arith) ∙ ap (list_all (λ f. eq f +0)) (take-length fractions)

pub plain_each : (plain : Bool) (fractions : List Float) (n : ℕ) → (plain || all_zero fractions n) ≡ true
    → (i : ℕ) → i < n → (plain || eq (get_or fractions i nan) +0) ≡ true
plain_each true fractions n a i h = refl
plain_each false fractions n a i h = zero_each fractions n a i h

-- ---- a walk

-- what the first n of its notes give is what the track gives
pub noted_stored : (lane : List ℤ) (bytes : List ℕ) (e : Entry) (t : Track) (c : Cursor) (places : List ℕ) (fractions : List Float)
    (output n : ℕ) (frame : List ℤ) → n ≤ length places → Walked t.rate c t.length places fractions n
    → stored (noted_at lane bytes e t (take n places) (take n fractions)) output (length (take n places)) frame
    ≡ stored (sound_after lane bytes e t c) output n frame
noted_stored lane bytes e t c places fractions output n frame few w =
    ap (λ (k : ℕ). stored (noted_at lane bytes e t (take n places) (take n fractions)) output k frame) (length-take-le n places few)
    ∙ stored_same (noted_at lane bytes e t (take n places) (take n fractions)) output frame (sound_after lane bytes e t c) n
    (λ i h. let p = w i h in
    let place = get_or-take n places i 0 h ∙ p.place_is in
    let fraction = get_or-take n fractions i nan h ∙ p.fraction_is in
    λ j. sound_by (sample_in lane bytes e) t.plain (place j) (fraction j))

-- ---- at rate 1.0 from a fraction of 0.0

sound_zero : (heard : ℕ → Sample) (plain : Bool) (place : ℕ) (fraction : Float) → eq fraction +0 ≡ true
    → sound_by heard plain place fraction ≡ heard place
unfolding sound_by
sound_zero heard true place fraction e = refl
sound_zero heard false place fraction e = cond_yes _ _ e

pub run_sound : (lane : List ℤ) (bytes : List ℕ) (e : Entry) (t : Track) (c : Cursor) → t.rate ≡ +1 → eq c.fraction +0 ≡ true
    → c.remaining ≤ t.length
    → (i : ℕ) → i ≤ c.remaining
    → run_at lane bytes e (t.length - c.remaining) i ≡ sound_after lane bytes e t c i
run_sound lane bytes e t c r z l i h =
    let there = ap (λ (x : Float). after x i c) r in
    let zero : eq (after t.rate i c).fraction +0 ≡ true = ap (λ (d : Cursor). eq d.fraction +0) there ∙ after_zero i c z h in
    let left : (after t.rate i c).remaining ≡ c.remaining - i = ap (λ (d : Cursor). d.remaining) there ∙ after_remaining i c z h in
    let place : t.length - c.remaining + i ≡ t.length - (after t.rate i c).remaining = omega (arith, left) in
    ap (sample_in lane bytes e) place
    ∙ sym (sound_zero (sample_in lane bytes e) t.plain (t.length - (after t.rate i c).remaining)
    (after t.rate i c).fraction zero)
