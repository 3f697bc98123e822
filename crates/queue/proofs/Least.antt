-- The search finds the first of smallest id, by what one entry more does to the least of those before it. Assumes nothing.
use Prim.Native.Nat.{ℕ, zero, suc, ◌+◌, ◌≤◌, ◌<◌}
use mathlib.Core.Path.{◌≡◌, refl, sym, ◌∙◌, ap, subst}
use mathlib.Core.Bool.{Bool, true, false, cond}
use mathlib.Core.List.{List}
use Rattle.std.proofs.Common.{None, Some}
use mathlib.Core.Logic.{⊎_elim}
use native.Mathlib.Omega.{arith}
use native.Mathlib.Numerals.{add-one}
use lib.Dec.{eqb, ltb}
use lib.ListN.{length, take}
use lib.Seq.{length-take-le, get_or-take}
use borrow.Author.Tests.{lt-ltb, le-ltb, ltb-true, ltb-false, eq-eqb, ne_eqb}
use Rattle.lists.proofs.Bools.{cond_yes, cond_no, cond_either}
use Rattle.lists.proofs.Walk.{below_or}
use Rattle.voice.specs.Blank.{blank_entry}
use Rattle.voice.specs.declared.record.Entry.{Entry}
use Rattle.queue.specs.Search.{id_at, least, searched, FirstOfSmallest, FindsFirst}

module _ (queue : List Entry) where
  -- the next id is below the least so far, or it is not
  pub least_below : (n : ℕ) → id_at queue n < id_at queue (least queue n) → least queue (n + 1) ≡ n
  unfolding least
  least_below n h = rw add-one (cond_yes _ _ (lt-ltb _ _ h))

  pub least_stays : (n : ℕ) → id_at queue (least queue n) ≤ id_at queue n → least queue (n + 1) ≡ least queue n
  unfolding least
  least_stays n h = rw add-one (cond_no _ _ (le-ltb _ _ h))

  pub search_some : (n : ℕ) → (n ≡ 0 → ⊥) → searched queue n ≡ Some (least queue n)
  unfolding searched
  search_some n h = cond_no _ _ (ne_eqb _ _ h)

  pub search_none : (n : ℕ) → n ≡ 0 → searched queue n ≡ None
  unfolding searched
  search_none n h = cond_yes _ _ (eq-eqb _ _ h)

  -- ---- the least is the first of smallest id

  -- of the first n places, not yet one of which is queued
  record Best (n place : ℕ) : Type 0 where
    smallest : (other : ℕ) → other < n → id_at queue place ≤ id_at queue other
    first : (earlier : ℕ) → earlier < place → id_at queue place < id_at queue earlier

  next_best : (n place : ℕ) (b : Bool) → ltb (id_at queue n) (id_at queue place) ≡ b → Best n place → Best (suc n) (cond b n place)
  next_best n place true e f =
      let lt = ltb-true (id_at queue n) (id_at queue place) e in
      record {
        smallest = λ k h. ⊎_elim (λ l. omega (arith, f.smallest k l)) (λ g. let same : k ≡ n = omega arith in rw same (omega arith))
            (below_or k n);
        first = λ k h. omega (arith, f.smallest k h);
      }
  next_best n place false e f =
      let ge = ltb-false (id_at queue n) (id_at queue place) e in
      record {
        smallest = λ k h. ⊎_elim (λ l. f.smallest k l) (λ g. let same : k ≡ n = omega arith in rw same (omega arith)) (below_or k n);
        first = f.first;
      }

  least_best : (n : ℕ) → Best n (least queue n)
  unfolding least
  least_best zero = record { smallest = λ k h. omega arith; first = λ k h. omega arith }
  least_best (suc n) = next_best n (least queue n) (ltb (id_at queue n) (id_at queue (least queue n))) refl (least_best n)

  least_queued : (n : ℕ) → least queue (suc n) < suc n
  unfolding least
  least_queued zero = cond_either (λ (k : ℕ). k < 1) (ltb (id_at queue 0) (id_at queue 0)) 0 0 (omega arith) (omega arith)
  least_queued (suc n) =
      let below = least_queued n in
      cond_either (λ (k : ℕ). k < suc (suc n)) (ltb (id_at queue (suc n)) (id_at queue (least queue (suc n)))) (suc n) (least queue (suc n))
      (omega arith) (omega arith)

  least_inside : (n m : ℕ) → n < m → least queue n < m
  unfolding least
  least_inside zero m h = h
  least_inside (suc n) m h =
      let below = least_queued n in
      omega arith

  first_of : (n : ℕ) → FirstOfSmallest queue (suc n) (least queue (suc n))
  first_of n =
      let best = least_best (suc n) in
      record { queued = least_queued n; smallest = best.smallest; first = best.first }

  -- there is only one
  only_one : (n a b : ℕ) → FirstOfSmallest queue n a → FirstOfSmallest queue n b → a ≡ b
  only_one n a b p q =
      ⊎_elim (λ l. absurd (omega (arith, q.first a l, p.smallest b q.queued)))
      (λ g. ⊎_elim (λ l. absurd (omega (arith, p.first b l, q.smallest a p.queued))) (λ k. omega (arith, g, k)) (below_or b a))
      (below_or a b)

  found_first : (n place : ℕ) → searched queue n ≡ Some place → FirstOfSmallest queue n place
  found_first zero place e =
      let z : ◌≡◌ {A = ℕ} 0 1 = cc (sym e ∙ search_none zero refl) in
      absurd (omega arith)
  found_first (suc n) place e =
      let ne : suc n ≡ 0 → ⊥ = λ h. omega arith in
      let same : least queue (suc n) ≡ place = cc (sym (search_some (suc n) ne) ∙ e) in
      subst (FirstOfSmallest queue (suc n)) same (first_of n)

  first_found : (n place : ℕ) → FirstOfSmallest queue n place → searched queue n ≡ Some place
  first_found zero place f = absurd (omega (arith, f.queued))
  first_found (suc n) place f =
      let ne : suc n ≡ 0 → ⊥ = λ h. omega arith in
      search_some (suc n) ne ∙ ap Some (only_one (suc n) (least queue (suc n)) place (first_of n) f)

  nothing_none : (n : ℕ) → searched queue n ≡ None → n ≡ 0
  nothing_none zero e = refl
  nothing_none (suc n) e =
      let ne : suc n ≡ 0 → ⊥ = λ h. omega arith in
      let z : ◌≡◌ {A = ℕ} 0 1 = cc (sym (search_some (suc n) ne) ∙ e) in
      absurd (omega arith)

-- ---- a search reads no entry past the count

module _ (queue : List Entry) (m : ℕ) where
  least_cut : (n : ℕ) → n ≤ m → least (take m queue) n ≡ least queue n
  unfolding least
  least_cut zero h = refl
  least_cut (suc n) h =
      let before = least_cut n (omega arith) in
      let here = get_or-take m queue n blank_entry (omega arith) in
      let there = ap (id_at (take m queue)) before
      ∙ ap (λ (e : Entry). e.id) (get_or-take m queue (least queue n) blank_entry (least_inside queue n m (omega arith))) in
      λ i. cond (ltb (here i).id (there i)) n (before i)

  pub searched_cut : m ≤ length queue → searched (take m queue) (length (take m queue)) ≡ searched queue m
  unfolding searched
  searched_cut h =
      let all : length (take m queue) ≡ m = length-take-le m queue h in
      let same : m ≤ m = omega arith in
      ap (searched (take m queue)) all ∙ ap (λ (k : ℕ). cond (eqb m 0) None (Some k)) (least_cut m same)

-- a search that found something found a queued entry
pub found_queued : (queue : List Entry) (n place : ℕ) → Some place ≡ searched queue n → place < n
found_queued queue n place e = (found_first queue n place (sym e)).queued

pub finds_first : FindsFirst
finds_first = record {
  found = λ queue n place. (found_first queue n place, first_found queue n place);
  nothing = λ queue n. (nothing_none queue n, search_none queue n);
}
