-- What `min_by_key` picks among the entries with their places is the first of smallest id: it keeps the best so far until a smaller id
-- comes. Assumes nothing.
use Prim.Native.Nat.{ℕ, suc, ◌+◌, ◌≤◌, ◌<◌}
use mathlib.Core.Path.{◌≡◌, refl, sym, ◌∙◌, ap, subst}
use mathlib.Core.List.{List, [], ◌∷◌, map}
use native.Mathlib.Omega.{arith}
use lib.ListN.{length, get_or, drop, length-drop}
use denote.Ref.{Bor}
use denote.Param.Members.{Mut}
use Rattle.std.proofs.Common.{Option, None, Some, Ordering, Less, Equal, Greater}
use Rattle.std.specs.Prelude.{option_map}
use Rattle.std.specs.Option.{MatchOption, IsSomeAnd}
use Rattle.std.specs.Fn.{Called, CalledAt}
use Rattle.std.specs.List.{FoldsTo, enumerate_from}
use Rattle.std.specs.Iterator.{Drains, KeyTurn, PicksMinByKey}
use Rattle.std.specs.Ordering.{nat_cmp, min_by_ordering}
use Rattle.std.proofs.lemmas.Cmp.{ranked}
use Rattle.std.proofs.lemmas.Iterator.{YieldsList, items_from_drains}
use Rattle.lists.proofs.Walk.{drop_next}
use Rattle.voice.specs.Blank.{blank_entry}
use Rattle.voice.specs.declared.record.Entry.{Entry}
use Rattle.queue.specs.Search.{id_at, least, searched}
use Rattle.queue.proofs.Least.{least_below, least_stays, search_some, search_none}

-- an entry with its place
abbrev pub placed : ℕ × Bor Entry → ℕ × Entry
placed x = (x.0, x.1.now)

module _ {F : Type 0} (g : Mut F (Bor (ℕ × Bor Entry) × Unit {0}) ℕ) (f : F)
    (gives : (x : Bor (ℕ × Bor Entry)) (r : ℕ) (q : F) → Called g f (x, tt) r q → (q ≡ f) × (r ≡ x.now.1.now.id)) (queue : List Entry)
  where
    gives_at : (x : ℕ × Bor Entry) (r : ℕ) (q : F) → CalledAt g f x r q → (q ≡ f) × (r ≡ x.1.now.id)
    gives_at x r q k =
        let h = gives k.shown r q k.called in
        (h.0, h.1 ∙ ap (λ (y : ℕ × Bor Entry). y.1.now.id) k.shows)

    -- the best of the first n places, and its id
    record Kept (n : ℕ) (p : (F × ℕ) × (ℕ × Bor Entry)) : Type 0 where
      same : p.0.0 ≡ f
      id : p.0.1 ≡ id_at queue p.1.0
      place : p.1.0 ≡ least queue n

    turn : (n : ℕ) (p q : (F × ℕ) × (ℕ × Bor Entry)) (x : ℕ × Bor Entry) → Kept n p → x.0 ≡ n → x.1.now.id ≡ id_at queue n
        → KeyTurn min_by_ordering min_by_ordering g nat_cmp p x q → Kept (n + 1) q
    turn n p q x a e i t = by t.1 t.3 t.4 t.5
      where
        call : (q.0.0 ≡ f) × (t.0 ≡ x.1.now.id)
        call = gives_at x t.0 q.0.0 (subst (λ (h : F). CalledAt g h x t.0 q.0.0) a.same t.2)

        best : p.0.1 ≡ id_at queue (least queue n)
        best = a.id ∙ ap (id_at queue) a.place

        stays : id_at queue (least queue n) ≤ id_at queue n → q.0.1 ≡ p.0.1 → q.1 ≡ p.1 → Kept (n + 1) q
        stays le key item = record {
          same = call.0;
          id = key ∙ a.id ∙ ap (λ (y : ℕ × Bor Entry). id_at queue y.0) (sym item);
          place = ap (λ (y : ℕ × Bor Entry). y.0) item ∙ a.place ∙ sym (least_stays queue n le);
        }

        by : (o : Ordering) → nat_cmp p.0.1 t.0 ≡ o → q.0.1 ≡ min_by_ordering o p.0.1 t.0 → q.1 ≡ min_by_ordering o p.1 x → Kept (n + 1) q
        by Less c key item =
            let lt : p.0.1 < t.0 = ranked p.0.1 t.0 Less (sym c) in
            stays (omega (arith, best, call.1)) key item
        by Equal c key item =
            let eq : p.0.1 ≡ t.0 = ranked p.0.1 t.0 Equal (sym c) in
            stays (omega (arith, best, call.1)) key item
        by Greater c key item =
            let gt : t.0 < p.0.1 = ranked p.0.1 t.0 Greater (sym c) in
            record {
              same = call.0;
              id = key ∙ call.1 ∙ i ∙ ap (id_at queue) (sym (ap (λ (y : ℕ × Bor Entry). y.0) item ∙ e));
              place = ap (λ (y : ℕ × Bor Entry). y.0) item ∙ e ∙ sym (least_below queue n (omega (arith, best, call.1)));
            }

    turns : (rest : List Entry) (n : ℕ) (xs : List (ℕ × Bor Entry)) (p q : (F × ℕ) × (ℕ × Bor Entry)) → Kept n p
        → map placed xs ≡ enumerate_from n rest → drop n queue ≡ rest
        → FoldsTo (KeyTurn min_by_ordering min_by_ordering g nat_cmp) p xs q → Kept (n + length rest) q
    turns [] n [] p q a m d h =
        let none : n ≡ n + 0 = omega arith in
        subst (λ (k : ℕ). Kept k q) none (subst (Kept n) h a)
    turns [] n (x ∷ xs) p q a m d h =
        let z : ◌≡◌ {A = ℕ} (suc (length (map placed xs))) 0 = ap length m in
        absurd (omega (arith, z))
    turns (e ∷ rest) n [] p q a m d h =
        let z : ◌≡◌ {A = ℕ} 0 (suc (length (enumerate_from (n + 1) rest))) = ap length m in
        absurd (omega (arith, z))
    turns (e ∷ rest) n (x ∷ xs) p q a m d h =
        let inside : n < length queue = omega (arith, length-drop n queue, ap length d) in
        let next = sym (drop_next queue n blank_entry inside) ∙ d in
        let here : placed x ≡ (n, e) = ap (λ (l : List (ℕ × Entry)). get_or l 0 (n, e)) m in
        let entry : get_or queue n blank_entry ≡ e = ap (λ (l : List Entry). get_or l 0 blank_entry) next in
        let id : x.1.now.id ≡ id_at queue n = ap (λ (y : ℕ × Entry). y.1.id) here ∙ ap (λ (y : Entry). y.id) (sym entry) in
        let one : n + 1 + length rest ≡ n + suc (length rest) = omega arith in
        subst (λ (k : ℕ). Kept k q) one
        (turns rest (n + 1) xs h.0 q (turn n p h.0 x a (ap (λ (y : ℕ × Entry). y.0) here) id h.1) (ap (drop 1) m) (ap (drop 1) next) h.2)

first_least : (e : Entry) (rest : List Entry) → least (e ∷ rest) 1 ≡ 0
unfolding least
first_least e rest = least_stays (e ∷ rest) 0 (omega arith)

numbered : (n : ℕ) (queue : List Entry) → length (enumerate_from n queue) ≡ length queue
numbered n [] = refl
numbered n (e ∷ rest) = ap suc (numbered (n + 1) rest)

module _ {S F : Type 0} (steps : S → Option (ℕ × Bor Entry) → S → Type 0) (g : Mut F (Bor (ℕ × Bor Entry) × Unit {0}) ℕ) (f : F)
    (gives : (x : Bor (ℕ × Bor Entry)) (r : ℕ) (q : F) → Called g f (x, tt) r q → (q ≡ f) × (r ≡ x.now.1.now.id)) (s : S)
  where
    drained : (queue : List Entry) (xs : List (ℕ × Bor Entry)) → YieldsList {B = ℕ × Entry} steps placed s (enumerate_from 0 queue)
        → Drains steps s xs → map placed xs ≡ enumerate_from 0 queue
    drained queue xs l d = items_from_drains xs (d.1.0, d.1.1, λ w. (d.0, d.1.2)) l

    of_some : (queue : List Entry) (y : ℕ × Bor Entry) → PicksMinByKey steps g nat_cmp s f (Some y)
        → YieldsList {B = ℕ × Entry} steps placed s (enumerate_from 0 queue) → Some y.0 ≡ searched queue (length queue)
    of_some [] y h l =
        let z : ◌≡◌ {A = ℕ} (suc (length (map placed h.1))) 0 = ap length (drained [] (h.0 ∷ h.1) l h.5) in
        absurd (omega (arith, z))
    of_some (e ∷ rest) y h l =
        let m = drained (e ∷ rest) (h.0 ∷ h.1) l h.5 in
        let here : placed h.0 ≡ (0, e) = ap (λ (l : List (ℕ × Entry)). get_or l 0 (0, e)) m in
        let call = gives_at g f gives (e ∷ rest) h.0 h.2 h.3 h.6 in
        let place : h.0.0 ≡ 0 = ap (λ (y : ℕ × Entry). y.0) here in
        let id : h.2 ≡ id_at (e ∷ rest) h.0.0 = call.1 ∙ ap (λ (y : ℕ × Entry). y.1.id) here ∙ ap (id_at (e ∷ rest)) (sym place) in
        let same : least (e ∷ rest) 1 ≡ 0 = first_least e rest in
        let all : 1 + length rest ≡ suc (length rest) = omega arith in
        let kept = turns g f gives (e ∷ rest) rest 1 h.1 ((h.3, h.2), h.0) (h.4, y)
        (record { same = call.0; id = id; place = place ∙ sym same }) (ap (drop 1) m) refl h.7 in
        subst (λ (n : ℕ). Some y.0 ≡ searched (e ∷ rest) n) all
        (ap Some kept.place ∙ sym (search_some (e ∷ rest) (1 + length rest) (λ z. omega arith)))

    pub picked : (queue : List Entry) (r : Option (ℕ × Bor Entry)) → PicksMinByKey steps g nat_cmp s f r
        → YieldsList {B = ℕ × Entry} steps placed s (enumerate_from 0 queue)
        → option_map (λ (x : ℕ × Bor Entry). x.0) r ≡ searched queue (length queue)
    picked queue None h l =
        let m = drained queue [] l h in
        sym (search_none queue (length queue) (sym (numbered 0 queue) ∙ sym (ap length m)))
    picked queue (Some y) h l = of_some queue y h l

-- the place alone
pub place_of : (P : ℕ × Bor Entry → ℕ → Type 0) → ((x : ℕ × Bor Entry) (k : ℕ) → P x k → k ≡ x.0)
    → (r : Option (ℕ × Bor Entry)) (m : Option ℕ)
    → MatchOption r (m ≡ None) (λ x. IsSomeAnd m (P x)) → m ≡ option_map (λ (x : ℕ × Bor Entry). x.0) r
place_of P gives None m h = h
place_of P gives (Some x) None h = absurd h
place_of P gives (Some x) (Some k) h = ap Some (gives x k h)
