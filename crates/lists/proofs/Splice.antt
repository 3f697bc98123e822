-- The laws of `part` and `splice`, by induction on the stores: the same stores keep two equal parts equal, stores elsewhere keep a part,
-- and within the list a splice is what a part lent on comes back as. Assumes nothing.
use mathlib.Core.Path.{◌≡◌, refl, sym, ap, ◌∙◌, subst}
use mathlib.Core.List.{List, [], ◌∷◌, ◌++◌, append_assoc}
use mathlib.Core.Logic.{◌⊎◌, inl, inr}
use Prim.Native.Nat.{ℕ, zero, suc, ◌+◌, ◌-◌, ◌≤◌, ◌<◌}
use native.Mathlib.Nat.{add-sub_of_le}
use native.Mathlib.Decide.{dec_lt}
use native.Mathlib.Omega.{arith}
use lib.ListN.{length, get_or, take, drop, set, length-take, length-drop, take-append-drop}
use lib.Seq.{sets, sets-eq, length-sets, length-take-le, take_at, drop_at, drop-drop, drop-set-lt, drop-set-add, take-set-le, get_or-take}
use lib.Seq.{get_or-drop}
use Rattle.lists.specs.Splice.{part, splice}

-- m elements from i on, and n from a on, share none
abbrev pub Apart : ℕ → ℕ → ℕ → ℕ → Type 0
Apart i m a n = (i + m ≤ a) ⊎ (a + n ≤ i)

module _ {A : Type 0} where
  -- ---- parts

  pub length_part : (a n : ℕ) (l : List A) → a + n ≤ length l → length (part a n l) ≡ n
  length_part a n l h = simp (length-take, length-drop) (omega arith)

  pub part_at : (a n : ℕ) (l : List A) (k : ℕ) (d : A) → k < n → get_or (part a n l) k d ≡ get_or l (a + k) d
  part_at a n l k d h = get_or-take n (drop a l) k d h ∙ get_or-drop a l k d

  -- a part that the code lends as `[a..a + n]`
  pub lent_is : (a n : ℕ) (l : List A) → take (a + n - a) (drop a l) ≡ part a n l
  lent_is a n l = ap (λ (m : ℕ). take m (drop a l)) z
    where
      z : a + n - a ≡ n
      z = omega arith

  pub lent_long : (a n : ℕ) (l : List A) → a + n ≤ length l → length (take (a + n - a) (drop a l)) ≡ n
  lent_long a n l h = ap length (lent_is a n l) ∙ length_part a n l h

  -- ---- a store, and stores, before a part is read

  take_set : (n : ℕ) (l : List A) (j : ℕ) (b : A) → take n (set l j b) ≡ set (take n l) j b
  take_set zero l j b = refl
  take_set (suc n) [] j b = refl
  take_set (suc n) (x ∷ xs) zero b = refl
  take_set (suc n) (x ∷ xs) (suc j) b = ap (λ (r : List A). x ∷ r) (take_set n xs j b)

  part_set : (a n k : ℕ) (l : List A) (b : A) → part a n (set l (a + k) b) ≡ set (part a n l) k b
  part_set a n k l b = ap (take n) (drop-set-add a l k b) ∙ take_set n (drop a l) k b

  pub same_set : (a n i : ℕ) (b : A) (l₁ l₂ : List A) → part a n l₁ ≡ part a n l₂ → part a n (set l₁ i b) ≡ part a n (set l₂ i b)
  same_set a n i b l₁ l₂ e = go (dec_lt i a)
    where
      go : Dec (i < a) → part a n (set l₁ i b) ≡ part a n (set l₂ i b)
      go (yes h) = ap (take n) (drop-set-lt a l₁ i b h) ∙ e ∙ sym (ap (take n) (drop-set-lt a l₂ i b h))
      go (no h) =
          subst (λ (j : ℕ). part a n (set l₁ j b) ≡ part a n (set l₂ j b)) (add-sub_of_le (omega arith))
          (part_set a n (i - a) l₁ b ∙ ap (λ (r : List A). set r (i - a) b) e ∙ sym (part_set a n (i - a) l₂ b))

  same_sets : (a n i : ℕ) (bs l₁ l₂ : List A) → part a n l₁ ≡ part a n l₂ → part a n (sets l₁ i bs) ≡ part a n (sets l₂ i bs)
  same_sets a n i [] l₁ l₂ e = e
  same_sets a n i (b ∷ bs) l₁ l₂ e = same_sets a n (suc i) bs (set l₁ i b) (set l₂ i b) (same_set a n i b l₁ l₂ e)

  other_set : (a n i : ℕ) (b : A) (l : List A) → Apart i 1 a n → part a n (set l i b) ≡ part a n l
  other_set a n i b l (inl h) = ap (take n) (drop-set-lt a l i b (omega arith))
  other_set a n i b l (inr h) =
      subst (λ (j : ℕ). part a n (set l j b) ≡ part a n l) (add-sub_of_le (omega arith))
      (ap (take n) (drop-set-add a l (i - a) b) ∙ take-set-le n (drop a l) (i - a) b (omega arith))

  other_sets : (a n i : ℕ) (bs l : List A) → Apart i (length bs) a n → part a n (sets l i bs) ≡ part a n l
  other_sets a n i [] l h = refl
  other_sets a n i (b ∷ bs) l (inl h) = other_sets a n (suc i) bs (set l i b) (inl (omega arith)) ∙ other_set a n i b l (inl (omega arith))
  other_sets a n i (b ∷ bs) l (inr h) = other_sets a n (suc i) bs (set l i b) (inr (omega arith)) ∙ other_set a n i b l (inr h)

  -- ---- splices, with no bound asked

  pub length_splice : (l : List A) (a : ℕ) (new : List A) → length (splice l a new) ≡ length l
  unfolding splice
  length_splice l a new = length-sets l a new

  -- the same splice keeps two equal parts equal, wherever it falls
  pub same_splice : (a n i : ℕ) (new l₁ l₂ : List A) → part a n l₁ ≡ part a n l₂ → part a n (splice l₁ i new) ≡ part a n (splice l₂ i new)
  unfolding splice
  same_splice a n i new l₁ l₂ e = same_sets a n i new l₁ l₂ e

  -- a splice elsewhere leaves a part
  pub other_splice : (a n i : ℕ) (new l : List A) → Apart i (length new) a n → part a n (splice l i new) ≡ part a n l
  unfolding splice
  other_splice a n i new l h = other_sets a n i new l h

  -- two texts put one after the other: one splice of both
  pub splice_append : (l : List A) (a : ℕ) (xs ys : List A) → splice l a (xs ++ ys) ≡ splice (splice l a xs) (a + length xs) ys
  unfolding splice
  splice_append l a [] ys = ap (λ (n : ℕ). sets l n ys) z
    where
      z : a ≡ a + 0
      z = omega arith
  splice_append l a (x ∷ xs) ys = splice_append (set l a x) (suc a) xs ys ∙ ap (λ (n : ℕ). sets (sets (set l a x) (suc a) xs) n ys) z
    where
      z : suc a + length xs ≡ a + suc (length xs)
      z = omega arith

  -- ---- splices within the list

  pub splice_is :
      (l : List A) (a : ℕ) (new : List A) → a + length new ≤ length l → splice l a new ≡ take a l ++ (new ++ drop (a + length new) l)
  unfolding splice
  splice_is l a new h = sets-eq new l a h ∙ append_assoc (take a l) new (drop (a + length new) l)

  -- the spliced part is what was put there
  pub part_splice : (a : ℕ) (new l : List A) → a + length new ≤ length l → part a (length new) (splice l a new) ≡ new
  part_splice a new l h =
      ap (λ r. take (length new) (drop a r)) (splice_is l a new h)
      ∙ ap (take (length new)) (drop_at (take a l) (new ++ drop (a + length new) l) a (length-take-le a l (omega arith)))
      ∙ take_at new (drop (a + length new) l) (length new) refl

  -- a part put where it stands changes nothing
  pub splice_own : (a n : ℕ) (l : List A) → a + n ≤ length l → splice l a (part a n l) ≡ l
  splice_own a n l h =
      splice_is l a (part a n l) (omega (arith, q))
      ∙ ap (λ (m : ℕ). take a l ++ (part a n l ++ drop (a + m) l)) q
      ∙ ap (λ (r : List A). take a l ++ (part a n l ++ r)) (sym (drop-drop n a l))
      ∙ ap (λ (r : List A). take a l ++ r) (take-append-drop n (drop a l))
      ∙ take-append-drop a l
    where
      q : length (part a n l) ≡ n
      q = length_part a n l h

  -- ---- what a part lent on leaves

  -- lent from a to e, and come back as new
  pub back_is_splice :
      (l new : List A) (a e : ℕ) → a ≤ e → e ≤ length l → length new ≡ e - a → take a l ++ (new ++ drop (e - a) (drop a l)) ≡ splice l a new
  back_is_splice l new a e h k q =
      ap (λ (r : List A). take a l ++ (new ++ r)) (drop-drop (e - a) a l ∙ ap (λ (n : ℕ). drop (a + n) l) (sym q))
      ∙ sym (splice_is l a new (omega arith))

  -- lent as `&mut l[a..a + n]` to a call that says what it left there
  pub called_is_splice :
      (l last new : List A) (a n : ℕ) → a + n ≤ length l → last ≡ new → length new ≡ n
      → take a l ++ (last ++ drop (a + n - a) (drop a l)) ≡ splice l a new
  called_is_splice l last new a n h e q =
      ap (λ (r : List A). take a l ++ (r ++ drop (a + n - a) (drop a l))) e ∙ back_is_splice l new a (a + n) (omega arith) h (omega arith)
