-- Values that get their parts one run after the other, in the order in which they lie. Assumes nothing.
use mathlib.Core.Path.{◌≡◌, refl, sym, ap, ◌∙◌}
use mathlib.Core.Bool.{Bool, true, false}
use mathlib.Core.List.{List}
use mathlib.Core.Logic.{⊎_elim}
use Prim.Native.Nat.{ℕ, ◌+◌, ◌*◌, ◌/◌, ◌%◌, ◌≤◌, ◌<◌}
use native.Mathlib.Omega.{arith}
use lib.IntN.{ℤ, pos}
use lib.Ieee.{Float, nan, ne}
use lib.ListN.{length, get_or, set, length-set}
use lib.Seq.{get_or-set_same, get_or-set_other}
use Rattle.lists.specs.Tabulate.{tabulate}
use Rattle.lists.proofs.Tabulate.{tabulated}
use Rattle.lists.proofs.Walk.{below_or}
use Rattle.lists.proofs.Bools.{cond_yes, cond_no}
use Rattle.mixing.specs.Gain.{at_gain, fading}
use Rattle.mix_voice.specs.Mixed.{mix_of, gain_of, place_of, sample_at, part_of, ramped_at, summed, Summed}

module _ (part : ℕ → ℤ) where
  pub no_sums : (first past : ℕ) (l : List ℤ) → past ≡ first → Summed part first past l l
  no_sums first past l e = record {
    same = refl;
    before = λ k h. refl;
    done = λ k h l i. absurd (none k first past e h l);
    after = λ k h. refl;
  }
    where
      none : (k n m : ℕ) → m ≡ n → n ≤ k → k < m → ⊥
      none k n m e h l = omega arith

  -- one run and the next
  pub more_sums : (a b c : ℕ) (old mid new : List ℤ) → a ≤ b → b ≤ c → Summed part a b old mid → Summed part b c mid new
      → Summed part a c old new
  more_sums a b c old mid new h k s t = record {
    same = t.same ∙ s.same;
    before = λ i l. t.before i (omega arith) ∙ s.before i l;
    done = λ i l u m. ⊎_elim
        (λ (p : i < b). t.before i p ∙ s.done i l p m)
        (λ (p : b ≤ i). t.done i p u (omega (arith, m, s.same)) ∙ ap (λ (n : ℤ). summed n (part i)) (s.after i p))
        (below_or i b);
    after = λ i l. t.after i l ∙ s.after i (omega arith);
  }

  -- one value
  pub one_sum : (k past : ℕ) (n : ℤ) (l : List ℤ) → past ≡ k + 1 → k < length l → n ≡ summed (get_or l k (pos 0)) (part k)
      → Summed part k past l (set l k n)
  one_sum k past n l p h e = record {
    same = length-set l k n;
    before = λ i u. get_or-set_other l k i n (pos 0) (other i u);
    done = λ i u v w. ap (λ (j : ℕ). get_or (set l k n) j (pos 0)) (is i u v) ∙ get_or-set_same l k n (pos 0) h ∙ e
        ∙ ap (λ (j : ℕ). summed (get_or l j (pos 0)) (part j)) (sym (is i u v));
    after = λ i u. get_or-set_other l k i n (pos 0) (later i u);
  }
    where
      other : (i : ℕ) → i < k → i ≡ k → ⊥
      other i u e = omega arith

      later : (i : ℕ) → past ≤ i → i ≡ k → ⊥
      later i u e = omega arith

      is : (i : ℕ) → k ≤ i → i < past → i ≡ k
      is i u v = omega arith

  -- parts that are the same
  pub same_sums : (other : ℕ → ℤ) (a b : ℕ) (old new : List ℤ) → ((k : ℕ) → a ≤ k → k < b → other k ≡ part k)
      → Summed other a b old new → Summed part a b old new
  same_sums other a b old new e s = record {
    same = s.same;
    before = s.before;
    done = λ k h l i. s.done k h l i ∙ ap (λ (n : ℤ). summed (get_or old k (pos 0)) n) (e k h l);
    after = s.after;
  }

  -- all of them
  pub all_sums : (n : ℕ) (old new : List ℤ) → length old ≡ 1920 → 1920 ≤ n → Summed part 0 n old new
      → new ≡ tabulate (λ k. summed (get_or old k (pos 0)) (part k)) 1920
  all_sums n old new long all s =
      tabulated new (λ k. summed (get_or old k (pos 0)) (part k)) 1920 (pos 0) (s.same ∙ long)
      (λ k h. s.done k (omega arith) (omega arith) (omega (arith, h, long)))

-- the sample of value k, by its channel and its place there
pub sample_in : (frame : List ℤ) (c i : ℕ) → i < 160 → get_or frame (i * 2 + c % 2) (pos 0) ≡ sample_at frame (c * 160 + i)
sample_in frame c i h = ap (λ (n : ℕ). get_or frame n (pos 0)) at
  where
    at : i * 2 + c % 2 ≡ (c * 160 + i) % 160 * 2 + (c * 160 + i) / 160 % 2
    at = omega arith

pub place_in : (c i : ℕ) → i < 160 → i ≡ place_of (c * 160 + i)
place_in c i h = omega arith

-- ---- the values of a channel: their part by the gains and the mark of the channel
module _ (marks : List Bool) (ramp gains : List Float) (frame : List ℤ) (c k : ℕ) (least : c * 160 ≤ k) (most : k < c * 160 + 160) where
  gain_is : gain_of k ≡ c
  gain_is = omega arith

  mix_is : mix_of k ≡ c / 4
  mix_is = omega arith

  -- by the mark and the gains
  by_channel : part_of (get_or marks (c / 4) false) (get_or ramp c nan) (get_or gains c nan) (place_of k) (sample_at frame k)
      ≡ ramped_at marks ramp gains frame k
  by_channel =
      λ j. part_of (get_or marks (sym mix_is j) false) (get_or ramp (sym gain_is j) nan) (get_or gains (sym gain_is j) nan) (place_of k)
      (sample_at frame k)

  pub fades : get_or marks (c / 4) false ≡ true → ne (get_or ramp c nan) (get_or gains c nan) ≡ true
      → fading (get_or ramp c nan) (get_or gains c nan) (place_of k) (sample_at frame k) ≡ ramped_at marks ramp gains frame k
  fades h e = sym (cond_yes _ _ h ∙ cond_yes _ _ e) ∙ by_channel

  pub unmarked : get_or marks (c / 4) false ≡ false → at_gain (get_or gains c nan) (sample_at frame k) ≡ ramped_at marks ramp gains frame k
  unmarked h = sym (cond_no _ _ h) ∙ by_channel

  pub level : get_or marks (c / 4) false ≡ true → ne (get_or ramp c nan) (get_or gains c nan) ≡ false
      → at_gain (get_or gains c nan) (sample_at frame k) ≡ ramped_at marks ramp gains frame k
  level h e = sym (cond_yes _ _ h ∙ cond_no _ _ e) ∙ by_channel
