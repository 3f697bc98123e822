-- A turn of the walk notes one step more. Assumes nothing.
use mathlib.Core.Path.{◌≡◌, sym, ap, ◌∙◌, subst}
use mathlib.Core.List.{List}
use Prim.Native.Nat.{ℕ, ◌+◌, ◌-◌, ◌≤◌, ◌<◌, min}
use native.Mathlib.Nat.{ne_of_lt}
use native.Mathlib.Numerals.{add-one}
use native.Mathlib.Omega.{arith}
use mathlib.Core.Logic.{⊎_elim}
use lib.IntN.{pos}
use lib.ListN.{length, set, length-set}
use lib.Seq.{get_or-set_same, get_or-set_other}
use borrow.Author.Count.{below_none, below_more}
use Rattle.lists.proofs.Walk.{below_or}
use lib.Ieee.{Float, nan, binary64, add, sub}
use Rattle.numbers.specs.Casts.{cast_u32, double}
use Rattle.numbers.specs.Held.{at_least_0}
use Rattle.steps.specs.declared.step.Cursor.{Cursor}
use Rattle.steps.specs.Step.{moved, left, consumed}
use Rattle.steps.specs.Stretch.{after, Noted, Walked}

pub after_next : (rate : Float) (n : ℕ) (c : Cursor) → after rate (n + 1) c ≡ moved rate (after rate n c)
unfolding after
after_next rate n c = ap (λ (k : ℕ). after rate k c) (add-one n)

-- a step that leaves something of the entry takes the whole part off
pub step_inside : (rate fraction : Float) (n at : ℕ) → at + cast_u32 (add binary64 fraction rate) < n
    → moved rate (record { remaining = n - at; fraction = fraction })
    ≡ record {
      remaining = n - (at + cast_u32 (add binary64 fraction rate));
      fraction = at_least_0
          (sub binary64 (add binary64 fraction rate) (double (pos (cast_u32 (add binary64 fraction rate)))));
    }
unfolding moved left consumed
step_inside rate fraction n at h =
    let k = cast_u32 (add binary64 fraction rate) in
    let e : min k (n - at) ≡ k = omega arith in
    let r : n - at - k ≡ n - (at + k) = omega arith in
    (λ i. record { remaining = n - at - e i; fraction = at_least_0 (sub binary64 (add binary64 fraction rate) (double (pos (e i)))) })
    ∙ (λ i. record { remaining = r i; fraction = at_least_0 (sub binary64 (add binary64 fraction rate) (double (pos k))) })

-- ---- the walk, after k steps
pub record Loop (rate : Float) (c : Cursor) (size : ℕ) (places : List ℕ) (fractions : List Float) (room at : ℕ) (fraction : Float) (k : ℕ) :
    Type 0 where
  pub most : k ≤ room
  pub far : at + 1 < size
  pub long : length places ≡ 160
  pub long_f : length fractions ≡ 160
  pub is : record { remaining = size - at; fraction = fraction } ≡ after rate k c
  pub inside : (j : ℕ) → j ≤ k → 1 < (after rate j c).remaining
  pub walked : Walked rate c size places fractions k

module _ (rate : Float) (c : Cursor) (size : ℕ) (places : List ℕ) (fractions : List Float) (room at : ℕ) (fraction : Float) (k : ℕ)
    (l : Loop rate c size places fractions room at fraction k) where
  here : at ≡ size - (after rate k c).remaining
  here = omega (arith, l.far, ap (λ (d : Cursor). d.remaining) l.is)

  module _ (less : k < room) (few : room ≤ 160) (n : ℕ) (x : Float)
      (n-is : n ≡ cast_u32 (add binary64 fraction rate))
      (x_is : x ≡ at_least_0 (sub binary64 (add binary64 fraction rate) (double (pos (cast_u32 (add binary64 fraction rate))))))
      (next : at + n + 1 < size) where
    abbrev places' : List ℕ
    places' = set places k at

    abbrev fractions' : List Float
    fractions' = set fractions k fraction

    is' : record { remaining = size - (at + n); fraction = x } ≡ after rate (k + 1) c
    is' =
        (λ i. record { remaining = size - (at + n-is i); fraction = x_is i })
        ∙ sym (step_inside rate fraction size at (omega (arith, n-is, next)))
        ∙ ap (moved rate) l.is
        ∙ sym (after_next rate k c)

    old : (j : ℕ) → j < k → Noted size places' fractions' (after rate j c) j
    old j h =
        let p = l.walked j h in
        record {
          place_is = get_or-set_other places k j at 0 (ne_of_lt h) ∙ p.place_is;
          fraction_is = get_or-set_other fractions k j fraction nan (ne_of_lt h) ∙ p.fraction_is;
        }

    new : Noted size places' fractions' (after rate k c) k
    new =
        let e : k < length places = omega (arith, l.long) in
        let e-f : k < length fractions = omega (arith, l.long_f) in
        record {
          place_is = get_or-set_same places k at 0 e ∙ here;
          fraction_is = get_or-set_same fractions k fraction nan e-f ∙ ap (λ (d : Cursor). d.fraction) l.is;
        }

    inside' : (j : ℕ) → j ≤ k + 1 → 1 < (after rate j c).remaining
    inside' j h = ⊎_elim (λ m. l.inside j (omega (arith, m))) (λ m. last (same m)) (below_or j (k + 1))
      where
        same : k + 1 ≤ j → k + 1 ≡ j
        same m = omega arith

        last : k + 1 ≡ j → 1 < (after rate j c).remaining
        last e = subst (λ (i : ℕ). 1 < (after rate i c).remaining) e (subst (λ (d : Cursor). 1 < d.remaining) is' (omega arith))

    pub turn : Loop rate c size places' fractions' room (at + n) x (k + 1)
    turn = record {
      most = omega arith;
      far = next;
      long = length-set places k at ∙ l.long;
      long_f = length-set fractions k fraction ∙ l.long_f;
      is = is';
      inside = inside';
      walked = below_more (λ (j : ℕ). Noted size places' fractions' (after rate j c) j) k old new;
    }

pub begun : (rate : Float) (c : Cursor) (size : ℕ) (places : List ℕ) (fractions : List Float) (room : ℕ)
    → 1 < c.remaining → c.remaining ≤ size → length places ≡ 160 → length fractions ≡ 160
    → Loop rate c size places fractions room (size - c.remaining) c.fraction 0
unfolding after
begun rate c size places fractions room two inside long long_f = record {
  most = omega arith;
  far = omega arith;
  long = long;
  long_f = long_f;
  is = λ i. record { remaining = back i; fraction = c.fraction };
  inside = λ j h. subst (λ (i : ℕ). 1 < (after rate i c).remaining) (zero_of j h) two;
  walked = below_none (λ (j : ℕ). Noted size places fractions (after rate j c) j);
}
  where
    back : size - (size - c.remaining) ≡ c.remaining
    back = omega arith

    zero_of : (j : ℕ) → j ≤ 0 → 0 ≡ j
    zero_of j h = omega arith
