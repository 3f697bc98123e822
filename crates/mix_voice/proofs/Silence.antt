-- Gains that equal 0.0 and do not fade add nothing: the product of such a gain is a zero, and the sum of a value and 0 is that value.
-- Assumes nothing.
use mathlib.Core.Path.{◌≡◌, refl, sym, ap, ◌∙◌, subst}
use mathlib.Core.Bool.{Bool, true, false, not, ◌&&◌, cond}
use mathlib.Core.List.{List}
use mathlib.Core.Logic.{⊎_elim}
use Prim.Native.Nat.{ℕ, zero, suc, ◌+◌, ◌/◌, ◌^◌, ◌≤◌, ◌<◌}
use native.Mathlib.Nat.{le_trans}
use native.Mathlib.Omega.{arith}
use lib.Dec.{lit<, lit≤}
use lib.Ieee.{Float, nan, binary32, eq, ne, mul}
use lib.IntN.{ℤ, pos, +ℤ_idr}
use lib.ListN.{length, get_or}
use lib.Signed.{mag, nat_abs-le}
use Rattle.std.specs.List.{list_all, range_with_len}
use Rattle.lists.proofs.Bools.{clash, and_both}
use Rattle.lists.proofs.Walk.{below_or}
use Rattle.numbers.specs.Casts.{cast_i32, single}
use Rattle.numbers.specs.Literals.{+0}
use Rattle.numbers.specs.Wrap.{wrap32}
use Rattle.numbers.proofs.Ranges.{wrap_self}
use Rattle.numbers.proofs.Reach.{Reach, zero_reach, single_reach, mul_reach, cast_reach, only_zero}
use Rattle.mixing.specs.Gain.{at_gain, fading}
use Rattle.mix_voice.specs.Mixed.{mix_of, gain_of, place_of, sample_at, part_of, ramped_at, summed, ramped, unheard, unheard_at, Summed}
use Rattle.mix_voice.proofs.Runs.{all_sums}

still : (g : Float) (v : ℤ) → Reach g 0 → mag v < 32768 → at_gain g v ≡ pos 0
unfolding at_gain
still g v z h =
    let few = le_trans (nat_abs-le v h) (lit≤ tt) in
    only_zero (cast_i32 (mul binary32 g (single v)))
    (cast_reach 31 (mul binary32 g (single v)) 0 (mul_reach binary32 g (single v) 0 (2 ^ 31) z (single_reach v few) (lit< tt)))

gain_silent : (g : Float) (v : ℤ) → eq g +0 ≡ true → mag v < 32768 → at_gain g v ≡ pos 0
gain_silent g v z h = still g v (zero_reach g z) h

-- the sum of a value and 0
kept : (v n : ℤ) → n ≡ pos 0 → mag v < 2147483648 → v ≡ summed v n
kept v n e h = sym (ap (λ (n : ℤ). summed v n) e ∙ ap (λ (z : ℤ). wrap32 z) (+ℤ_idr v) ∙ wrap_self v (record { sfits = h }))

-- nothing is added to any of the values
pub none_added : (g : Float) (frame old : List ℤ) (first past : ℕ) → eq g +0 ≡ true
    → ((k : ℕ) → mag (get_or frame k (pos 0)) < 32768) → ((k : ℕ) → mag (get_or old k (pos 0)) < 2147483648)
    → Summed (λ k. at_gain g (sample_at frame k)) first past old old
none_added g frame old first past z f o = record {
  same = refl;
  before = λ k h. refl;
  done = λ k h l i. kept (get_or old k (pos 0)) (at_gain g (sample_at frame k)) (gain_silent g (sample_at frame k) z (f _)) (o k);
  after = λ k h. refl;
}

-- ---- no channel is heard
-- what is not faded
level : {A : Type 0} (on differs : Bool) (x y : A) → not (on && differs) ≡ true → cond on (cond differs x y) y ≡ y
level true true x y e = absurd (clash (sym e))
level true false x y e = refl
level false differs x y e = refl

silent_part : (on : Bool) (from to : Float) (i : ℕ) (v : ℤ) → unheard on from to ≡ true → mag v < 32768 → part_of on from to i v ≡ pos 0
silent_part on from to i v e h =
    let both = and_both (eq to +0) (not (on && ne from to)) e in
    level on (ne from to) (fading from to i v) (at_gain to v) both.1 ∙ gain_silent to v both.0 h

-- each of so many numbers passes a test that all of them pass
each : (test : ℕ → Bool) (first n : ℕ) → list_all test (range_with_len first n) ≡ true → (k : ℕ) → first ≤ k → k < first + n
    → test k ≡ true
each test first zero e k h l = absurd (none k first h l)
  where
    none : (k first : ℕ) → first ≤ k → k < first + 0 → ⊥
    none k first h l = omega arith
each test first (suc n) e k h l =
    let both = and_both (test first) (list_all test (range_with_len (first + 1) n)) e in
    ⊎_elim
    (λ (p : k < first + 1). subst (λ (j : ℕ). test j ≡ true) (is k first h p) both.0)
    (λ (p : first + 1 ≤ k). each test (first + 1) n both.1 k p (later k first n l))
    (below_or k (first + 1))
  where
    is : (k first : ℕ) → first ≤ k → k < first + 1 → first ≡ k
    is k first h l = omega arith

    later : (k first n : ℕ) → k < first + suc n → k < first + 1 + n
    later k first n l = omega arith

-- the mixes stay as they are
pub none_mixed : (marks : List Bool) (from to : List Float) (frame old : List ℤ) → length old ≡ 1920
    → list_all (unheard_at marks from to) (range_with_len 0 12) ≡ true → ((k : ℕ) → mag (get_or frame k (pos 0)) < 32768)
    → ((k : ℕ) → mag (get_or old k (pos 0)) < 2147483648) → old ≡ ramped marks from to frame old
unfolding ramped
none_mixed marks from to frame old long s f o =
    all_sums (ramped_at marks from to frame) 1920 old old long (omega arith)
    (record {
      same = refl;
      before = λ k h. refl;
      done = λ k h l i. kept (get_or old k (pos 0)) (ramped_at marks from to frame k) (none k l) (o k);
      after = λ k h. refl;
    })
  where
    none : (k : ℕ) → k < 1920 → ramped_at marks from to frame k ≡ pos 0
    none k l =
        let c : gain_of k < 12 = omega arith in
        let m : gain_of k / 4 ≡ mix_of k = omega arith in
        let e = each (unheard_at marks from to) 0 12 s (gain_of k) (omega arith) c in
        silent_part (get_or marks (mix_of k) false) (get_or from (gain_of k) nan) (get_or to (gain_of k) nan) (place_of k)
        (sample_at frame k)
        (subst (λ (j : ℕ). unheard (get_or marks j false) (get_or from (gain_of k) nan) (get_or to (gain_of k) nan) ≡ true) m e) (f _)
