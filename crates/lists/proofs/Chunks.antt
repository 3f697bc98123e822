-- A list that a loop fills from the front, w elements a turn, each turn's from one element of a source: `flat_map` grows by one chunk.
-- Assumes nothing.
use mathlib.Core.Path.{◌≡◌, refl, sym, ap, ◌∙◌, subst}
use mathlib.Core.List.{List, [], ◌∷◌, ◌++◌, flat_map, append_assoc, append-nil}
use Prim.Native.Nat.{ℕ, zero, suc, ◌+◌, ◌*◌, ◌≤◌, ◌<◌, zero-le}
use native.Mathlib.Nat.{le_of_suc-le-suc, not-suc-le-zero, zero-mul, suc-mul, add_comm, mul-le-mul_right}
use native.Mathlib.Numerals.{add-one}
use native.Mathlib.Omega.{arith}
use lib.ListN.{length, take, drop, get_or, length-append, drop_of_length-le}
use lib.Seq.{take_at, drop_at, drop-drop, take_all, length-take-le}
use Rattle.lists.specs.Splice.{splice}
use Rattle.lists.proofs.Splice.{splice_is, length_splice}

module _ {A B : Type 0} (f : A → List B) (w : ℕ) (wide : (x : A) → length (f x) ≡ w) where
  pub length_chunks : (xs : List A) → length (flat_map f xs) ≡ length xs * w
  unfolding flat_map
  length_chunks [] = sym (zero-mul w)
  length_chunks (x ∷ xs) =
      length-append (f x) (flat_map f xs) ∙ (λ i. wide x i + length_chunks xs i) ∙ add_comm w (length xs * w) ∙ sym (suc-mul (length xs) w)

  chunks_suc : (xs : List A) (i : ℕ) (d : A) → i < length xs → flat_map f (take (suc i) xs) ≡ flat_map f (take i xs) ++ f (get_or xs i d)
  unfolding flat_map
  chunks_suc [] i d h = absurd (not-suc-le-zero h)
  chunks_suc (x ∷ xs) zero d h = append-nil (f x)
  chunks_suc (x ∷ xs) (suc i) d h =
      ap (λ (l : List B). f x ++ l) (chunks_suc xs i d (le_of_suc-le-suc h))
      ∙ sym (append_assoc (f x) (flat_map f (take i xs)) (f (get_or xs i d)))

  -- the first i chunks stand, the rest is as it was
  pub record Chunked (xs : List A) (old now : List B) (i : ℕ) : Type 0 where
    pub reach : i ≤ length xs
    pub same : length now ≡ length old
    pub stored : now ≡ flat_map f (take i xs) ++ drop (i * w) old

  pub chunked_none : (xs : List A) (old : List B) → Chunked xs old old 0
  unfolding flat_map
  chunked_none xs old = record { reach = zero-le; same = refl; stored = ap (λ (n : ℕ). drop n old) (sym (zero-mul w)) }

  next : (i : ℕ) → (i + 1) * w ≡ i * w + w
  next i = ap (λ (n : ℕ). n * w) (add-one i) ∙ suc-mul i w

  -- a turn: the chunk of one more element is spliced in
  pub chunked_more : (xs : List A) (old now : List B) (i : ℕ) (d : A) → length xs * w ≤ length old → i < length xs → Chunked xs old now i
      → Chunked xs old (splice now (i * w) (f (get_or xs i d))) (i + 1)
  chunked_more xs old now i d fit h c = record {
    reach = omega arith;
    same = length_splice now (i * w) (f (get_or xs i d)) ∙ c.same;
    stored =
        splice_is now (i * w) new room
        ∙ (λ j. front j ++ (new ++ rest j))
        ∙ sym (append_assoc (flat_map f (take i xs)) new (drop ((i + 1) * w) old))
        ∙ ap (λ (l : List B). l ++ drop ((i + 1) * w) old) (sym (ap (λ (n : ℕ). flat_map f (take n xs)) (add-one i) ∙ chunks_suc xs i d h));
  }
    where
      new : List B
      new = f (get_or xs i d)

      done : length (flat_map f (take i xs)) ≡ i * w
      done = length_chunks (take i xs) ∙ ap (λ (n : ℕ). n * w) (length-take-le i xs c.reach)

      reach_next : (i + 1) * w ≤ length xs * w
      reach_next = mul-le-mul_right w more
        where
          more : i + 1 ≤ length xs
          more = omega arith

      room : i * w + length new ≤ length now
      room = omega (arith, next i, reach_next, wide (get_or xs i d), c.same)

      front : take (i * w) now ≡ flat_map f (take i xs)
      front = ap (take (i * w)) c.stored ∙ take_at (flat_map f (take i xs)) (drop (i * w) old) (i * w) done

      rest : drop (i * w + length new) now ≡ drop ((i + 1) * w) old
      rest =
          sym (drop-drop (length new) (i * w) now)
          ∙ ap (drop (length new)) (ap (drop (i * w)) c.stored ∙ drop_at (flat_map f (take i xs)) (drop (i * w) old) (i * w) done)
          ∙ drop-drop (length new) (i * w) old
          ∙ ap (λ (n : ℕ). drop n old) (ap (λ (n : ℕ). i * w + n) (wide (get_or xs i d)) ∙ sym (next i))

  -- at the loop's end
  pub chunked_all :
      (xs : List A) (old now : List B) (i : ℕ) → length xs ≤ i → Chunked xs old now i → now ≡ flat_map f xs ++ drop (length xs * w) old
  chunked_all xs old now i h c = c.stored ∙ (λ j. flat_map f (take_all i xs h j) ++ drop (all j * w) old)
    where
      all : i ≡ length xs
      all = omega (arith, c.reach)

  -- a turn made by a call that says what it spliced in
  pub chunked_called :
      (xs : List A) (old now : List B) (i : ℕ) (last new : List B) (d : A) → length xs * w ≤ length old → i < length xs
      → Chunked xs old now i
      → last ≡ splice now (i * w) new → new ≡ f (get_or xs i d) → Chunked xs old last (i + 1)
  chunked_called xs old now i last new d fit h c e q =
      subst (λ (l : List B). Chunked xs old l (i + 1)) (sym (e ∙ ap (splice now (i * w)) q)) (chunked_more xs old now i d fit h c)

  -- at the loop's end, where the chunks are as long as the list
  pub chunked_full :
      (xs : List A) (old now : List B) (i : ℕ) → length old ≤ length xs * w → length xs ≤ i → Chunked xs old now i → now ≡ flat_map f xs
  chunked_full xs old now i fit h c =
      chunked_all xs old now i h c ∙ ap (λ (l : List B). flat_map f xs ++ l) (drop_of_length-le old fit) ∙ append-nil (flat_map f xs)
