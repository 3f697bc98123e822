-- What the tests on places mean in words of bytes, and so when each of the numbers 1, 2 and 3 is given. The tests are walked as lists; the
-- byte past the region is a place's last, and the byte that two places share is the later one's first. Assumes nothing.
use mathlib.Core.Path.{◌≡◌, refl, sym, ◌∙◌}
use mathlib.Core.Bool.{Bool, true, false, not, ◌&&◌, ◌||◌}
use mathlib.Core.List.{List, [], ◌∷◌}
use mathlib.Core.Logic.{◌⊎◌, inl, inr, ⊎_elim, ◌↔◌}
use Prim.Native.Nat.{ℕ, zero, suc, ◌-◌, ◌≤◌, ◌<◌, zero-le, suc-le-suc}
use native.Mathlib.Nat.{le_of_suc-le-suc, not-suc-le-zero}
use native.Mathlib.Omega.{arith}
use lib.Dec.{eqb, ltb, leb, lit<}
use lib.ListN.{length, get_or}
use borrow.Author.Tests.{eqb-true, eq-eqb, lt-ltb, le-leb, lt-leb, leb-true, leb-false, ltb-true, ltb-false, not-true, not-false}
use Rattle.lists.specs.Lowest.{Given}
use Rattle.lists.proofs.Bools.{clash, or_no, or_yes, or_neither, not_yes, not_no, and_both, and_yes}
use Rattle.lists.proofs.Lowest.{holds_or, fails_if, lowest_given}
use Rattle.lists.proofs.Splice.{Apart}
use Rattle.lists.proofs.Walk.{below_or}
use Rattle.layout.specs.declared.Layout.{Layout}
use Rattle.layout.specs.declared.Place.{Place}
use Rattle.layout.specs.Places.{place, places_of, place_at, end, inside, apart_two, apart_from, apart, region_most, layout_rules}
use Rattle.layout.specs.Places.{layout_number}
use Rattle.layout.specs.Exactly.{Holds, LengthsWrong, EndsPast, ShareByte, Exactly, Sound}

-- ---- two places

module _ (p q : Place) where
  pub two_apart : apart_two p q ≡ true → Apart p.at p.size q.at q.size
  two_apart e = ⊎_elim (λ h. inr (leb-true (end q) p.at (sym (or_no _ (lt-leb (end p) q.at h)) ∙ e))) inl (below_or q.at (end p))

  -- places apart share no byte
  pub none_shared : apart_two p q ≡ true → (k : ℕ) → Holds p k → Holds q k → ⊥
  none_shared e k f g = ⊎_elim (λ h. omega arith) (λ h. omega arith) (two_apart e)

  -- places that are not apart, and not empty, share one
  pub one_shared : 0 < p.size → 0 < q.size → apart_two p q ≡ false → (k : ℕ) × Holds p k × Holds q k
  one_shared s t e =
      let n = or_neither (leb (end p) q.at) (leb (end q) p.at) e in
      let f = leb-false (end p) q.at n.0 in
      let g = leb-false (end q) p.at n.1 in
      ⊎_elim
      (λ h. (q.at, (omega arith, f), (omega arith, omega arith)))
      (λ h. (p.at, (omega arith, omega arith), (h, g)))
      (below_or p.at q.at)

-- ---- lists of places

-- element i
abbrev nth : List Place → ℕ → Place
nth ps i = get_or ps i (place 0 0)

pub inside_each : (n : ℕ) (ps : List Place) → inside n ps ≡ true → (i : ℕ) → i < length ps → end (nth ps i) ≤ n
inside_each n [] e i h = absurd (not-suc-le-zero h)
inside_each n (p ∷ ps) e zero h = leb-true (end p) n (and_both (leb (end p) n) (inside n ps) e).0
inside_each n (p ∷ ps) e (suc i) h = inside_each n ps (and_both (leb (end p) n) (inside n ps) e).1 i (le_of_suc-le-suc h)

past_one : (n : ℕ) (ps : List Place) → inside n ps ≡ false → (i : ℕ) × (i < length ps) × (n < end (nth ps i))
past_one n [] e = absurd (clash e)
past_one n (p ∷ ps) e = go (below_or n (end p)) (past_one n ps)
  where
    go : (n < end p) ⊎ (end p ≤ n) → (inside n ps ≡ false → (i : ℕ) × (i < length ps) × (n < end (nth ps i)))
        → (i : ℕ) × (i < suc (length ps)) × (n < end (nth (p ∷ ps) i))
    go (inl h) more = (0, suc-le-suc zero-le, h)
    go (inr h) more = let r = more (sym (and_yes _ (le-leb (end p) n h)) ∙ e) in (suc r.0, suc-le-suc r.1, r.2)

from_each : (p : Place) (ps : List Place) → apart_from p ps ≡ true → (j : ℕ) → j < length ps → apart_two p (nth ps j) ≡ true
from_each p [] e j h = absurd (not-suc-le-zero h)
from_each p (q ∷ qs) e zero h = (and_both (apart_two p q) (apart_from p qs) e).0
from_each p (q ∷ qs) e (suc j) h = from_each p qs (and_both (apart_two p q) (apart_from p qs) e).1 j (le_of_suc-le-suc h)

pub apart_each : (ps : List Place) → apart ps ≡ true → (i j : ℕ) → i < j → j < length ps → apart_two (nth ps i) (nth ps j) ≡ true
apart_each [] e i j o h = absurd (not-suc-le-zero h)
apart_each (p ∷ ps) e i zero o h = absurd (not-suc-le-zero o)
apart_each (p ∷ ps) e zero (suc j) o h = from_each p ps (and_both (apart_from p ps) (apart ps) e).0 j (le_of_suc-le-suc h)
apart_each (p ∷ ps) e (suc i) (suc j) o h =
    apart_each ps (and_both (apart_from p ps) (apart ps) e).1 i j (le_of_suc-le-suc o) (le_of_suc-le-suc h)

from_one : (p : Place) (ps : List Place) → apart_from p ps ≡ false → (j : ℕ) × (j < length ps) × (apart_two p (nth ps j) ≡ false)
from_one p [] e = absurd (clash e)
from_one p (q ∷ qs) e = go (holds_or (apart_two p q)) (from_one p qs)
  where
    go :
        (apart_two p q ≡ true) ⊎ (apart_two p q ≡ false)
        → (apart_from p qs ≡ false → (j : ℕ) × (j < length qs) × (apart_two p (nth qs j) ≡ false))
        → (j : ℕ) × (j < suc (length qs)) × (apart_two p (nth (q ∷ qs) j) ≡ false)
    go (inl t) more = let r = more (sym (and_yes _ t) ∙ e) in (suc r.0, suc-le-suc r.1, r.2)
    go (inr f) more = (0, suc-le-suc zero-le, f)

-- two of a list that are not apart
abbrev Two : List Place → Type 0
Two ps = (i : ℕ) × (j : ℕ) × (i < j) × (j < length ps) × (apart_two (nth ps i) (nth ps j) ≡ false)

apart_one : (ps : List Place) → apart ps ≡ false → Two ps
apart_one [] e = absurd (clash e)
apart_one (p ∷ ps) e = go (holds_or (apart_from p ps)) (apart_one ps)
  where
    go : (apart_from p ps ≡ true) ⊎ (apart_from p ps ≡ false) → (apart ps ≡ false → Two ps) → Two (p ∷ ps)
    go (inl t) more = let r = more (sym (and_yes _ t) ∙ e) in (suc r.0, suc r.1, suc-le-suc r.2, suc-le-suc r.3, r.4)
    go (inr f) more = let r = from_one p ps f in (0, suc r.0, suc-le-suc zero-le, suc-le-suc r.1, r.2)

-- ---- the seven places

-- no place is empty
abbrev filled : List Place → Bool
filled [] = true
filled (p ∷ ps) = ltb 0 p.size && filled ps

filled_each : (ps : List Place) → filled ps ≡ true → (i : ℕ) → i < length ps → 0 < (nth ps i).size
filled_each [] e i h = absurd (not-suc-le-zero h)
filled_each (p ∷ ps) e zero h = ltb-true 0 p.size (and_both (ltb 0 p.size) (filled ps) e).0
filled_each (p ∷ ps) e (suc i) h = filled_each ps (and_both (ltb 0 p.size) (filled ps) e).1 i (le_of_suc-le-suc h)

-- each rule's test says its sentence
pub lengths_say : (first second : ℕ) → ((not (eqb first second) || ltb region_most first) ≡ true) ↔ LengthsWrong first second
lengths_say first second = (λ e. wrong e (holds_or (eqb first second)), λ w. test w (holds_or (eqb first second)))
  where
    wrong :
        (not (eqb first second) || ltb region_most first) ≡ true → (eqb first second ≡ true) ⊎ (eqb first second ≡ false)
        → LengthsWrong first second
    wrong e (inl t) = inr (inl (ltb-true region_most first (sym (or_no _ (not_yes t)) ∙ e)))
    wrong e (inr f) = inl (λ s. clash (sym (eq-eqb first second s) ∙ f))

    test :
        LengthsWrong first second → (eqb first second ≡ true) ⊎ (eqb first second ≡ false)
        → (not (eqb first second) || ltb region_most first) ≡ true
    test w (inr f) = or_yes _ (not_no f)
    test (inl n) (inl t) = absurd (n (eqb-true first second t))
    test (inr (inl h)) (inl t) = or_no _ (not_yes t) ∙ lt-ltb region_most first h
    test (inr (inr h)) (inl t) = or_no _ (not_yes t) ∙ lt-ltb region_most first (omega (arith, eqb-true first second t))

module _ (first : ℕ) (l : Layout) where
  pub ends_say : (not (inside first (places_of l)) ≡ true) ↔ EndsPast first l
  ends_say = (λ e. last (past_one first (places_of l) (not-true _ e)), λ s. not_no (test s (holds_or (inside first (places_of l)))))
    where
      last : (i : ℕ) × (i < 7) × (first < end (place_at l i)) → EndsPast first l
      last r =
          let f = filled_each (places_of l) refl r.0 r.1 in
          (r.0, end (place_at l r.0) - 1, r.1, (omega arith, omega arith), omega arith)

      test :
          EndsPast first l → (inside first (places_of l) ≡ true) ⊎ (inside first (places_of l) ≡ false)
          → inside first (places_of l) ≡ false
      test s (inl t) = let w = inside_each first (places_of l) t s.0 s.2 in absurd (omega (arith, s.3, s.4))
      test s (inr f) = f

pub shares_say : (l : Layout) → (not (apart (places_of l)) ≡ true) ↔ ShareByte l
shares_say l = (λ e. byte (apart_one (places_of l) (not-true _ e)), λ s. not_no (test s (holds_or (apart (places_of l)))))
  where
    byte : Two (places_of l) → ShareByte l
    byte r =
        let s = filled_each (places_of l) refl in
        let k = one_shared (place_at l r.0) (place_at l r.1) (s r.0 (omega (arith, r.2, r.3))) (s r.1 r.3) r.4 in
        (r.0, r.1, k.0, r.2, r.3, k.1, k.2)

    test : ShareByte l → (apart (places_of l) ≡ true) ⊎ (apart (places_of l) ≡ false) → apart (places_of l) ≡ false
    test s (inl t) =
        absurd (none_shared (place_at l s.0) (place_at l s.1) (apart_each (places_of l) t s.0 s.1 s.3 s.4) s.2 s.5
        s.6)
    test s (inr f) = f

module _ (first second : ℕ) (l : Layout) where
  rules : Given (layout_rules first second l)
  rules = lowest_given (layout_rules first second l) refl

  -- a rule's test fails exactly if its sentence does not hold
  lengths_fail : ((not (eqb first second) || ltb region_most first) ≡ false) ↔ (LengthsWrong first second → ⊥)
  lengths_fail = fails_if _ (lengths_say first second)

  ends_fail : (not (inside first (places_of l)) ≡ false) ↔ (EndsPast first l → ⊥)
  ends_fail = fails_if _ (ends_say first l)

  shares_fail : (not (apart (places_of l)) ≡ false) ↔ (ShareByte l → ⊥)
  shares_fail = fails_if _ (shares_say l)

  pub exactly : Exactly first second l
  exactly = record {
    one = (
      λ e. (lengths_say first second).0 ((rules.given 0 (lit< tt)).0 e),
      λ s. (rules.given 0 (lit< tt)).1 ((lengths_say first second).1 s),
    );
    two = (
      λ e. let f = (rules.given 1 (lit< tt)).0 e in (lengths_fail.0 f.0, (ends_say first l).0 f.1),
      λ s. (rules.given 1 (lit< tt)).1 (lengths_fail.1 s.0, (ends_say first l).1 s.1),
    );
    three = (
      λ e. let f = (rules.given 2 (lit< tt)).0 e in (lengths_fail.0 f.0, ends_fail.0 f.1.0, (shares_say l).0 f.1.1),
      λ s. (rules.given 2 (lit< tt)).1 (lengths_fail.1 s.0, (ends_fail.1 s.1, (shares_say l).1 s.2)),
    );
    none = (
      λ e. let f = rules.nothing.0 e in (lengths_fail.0 f.0, ends_fail.0 f.1.0, shares_fail.0 f.1.1.0),
      λ s. rules.nothing.1 (lengths_fail.1 s.0, (ends_fail.1 s.1, (shares_fail.1 s.2, tt))),
    );
  }

  -- 0 is given only if the layout is sound
  pub accepted : layout_number first second l ≡ 0 → Sound first second l
  accepted e =
      let f = rules.nothing.0 e in
      let lengths = or_neither (not (eqb first second)) (ltb region_most first) f.0 in
      record {
        same = eqb-true first second (not-false _ lengths.0);
        small = ltb-false region_most first lengths.1;
        within = inside_each first (places_of l) (not-false _ f.1.0);
        own = λ i j k o h p q. (exactly.none.0 e).2 (i, j, k, o, h, p, q);
      }
