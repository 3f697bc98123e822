-- The laws of `joined`: a part of n times w elements is its n parts of w joined, by induction on n; and a list that another is outside one
-- part is that other with this part spliced in. Assumes nothing.
use mathlib.Core.Path.{◌≡◌, refl, sym, ap, ap₂, ◌∙◌}
use mathlib.Core.List.{List, ◌++◌}
use mathlib.Core.Logic.{inl, inr}
use Prim.Native.Nat.{ℕ, zero, suc, ◌+◌, ◌*◌, ◌≤◌, ◌<◌}
use native.Mathlib.Nat.{zero-mul, suc-mul}
use native.Mathlib.Omega.{arith}
use lib.ListN.{length, take, drop, take-append-drop, length-drop}
use lib.Seq.{take-add, take_all, drop-drop}
use Rattle.lists.specs.Joined.{joined}
use Rattle.lists.specs.Splice.{part, splice}
use Rattle.lists.proofs.Splice.{Apart, length_part, splice_is}

module _ {A : Type 0} where
  pub joined_same : (f g : ℕ → List A) (n : ℕ) → ((v : ℕ) → v < n → f v ≡ g v) → joined n f ≡ joined n g
  unfolding joined
  joined_same f g zero h = refl
  joined_same f g (suc n) h = ap₂ (λ x y. x ++ y) (joined_same f g n (λ v p. h v (omega arith))) (h n (omega arith))

  -- a part of m + n elements is one of m and one of n
  part_add : (a m n : ℕ) (l : List A) → part a (m + n) l ≡ part a m l ++ part (a + m) n l
  part_add a m n l = take-add m n (drop a l) ∙ ap (λ r. part a m l ++ take n r) (drop-drop m a l)

  pub joined_parts : (a w n : ℕ) (l : List A) → part a (n * w) l ≡ joined n (λ v. part (a + v * w) w l)
  unfolding joined
  joined_parts a w zero l = ap (λ k. part a k l) (zero-mul w)
  joined_parts a w (suc n) l =
      ap (λ k. part a k l) (suc-mul n w) ∙ part_add a (n * w) w l ∙ ap (λ r. r ++ part (a + n * w) w l) (joined_parts a w n l)

  -- so where the parts are known, the whole is
  pub joined_is : (a w n : ℕ) (l : List A) (f : ℕ → List A) → ((v : ℕ) → v < n → part (a + v * w) w l ≡ f v)
      → part a (n * w) l ≡ joined n f
  joined_is a w n l f h = joined_parts a w n l ∙ joined_same (λ v. part (a + v * w) w l) f n h

  -- y is x outside the n elements from a on, and there it is new
  pub rebuilt : (x y new : List A) (a n : ℕ) → length y ≡ length x → a + n ≤ length x → part a n y ≡ new
      → ((b k : ℕ) → Apart a n b k → part b k y ≡ part b k x) → y ≡ splice x a new
  rebuilt x y new a n long fit here there =
      sym (take-append-drop a y)
      ∙ ap₂ (λ r s. r ++ s) (there 0 a (inr (omega arith)))
      (sym (take-append-drop n (drop a y)) ∙ ap₂ (λ r s. r ++ s) here (drop-drop n a y ∙ tail))
      ∙ sym (splice_is x a new (omega (arith, wide)) ∙ ap (λ k. take a x ++ (new ++ drop (a + k) x)) wide)
    where
      wide : length new ≡ n
      wide = ap length (sym here) ∙ length_part a n y (omega arith)

      rest : (r : List A) → length r ≡ length x → part (a + n) (length x) r ≡ drop (a + n) r
      rest r e = take_all (length x) (drop (a + n) r) (simp length-drop (omega arith))

      tail : drop (a + n) y ≡ drop (a + n) x
      tail = sym (rest y long) ∙ there (a + n) (length x) (inl (omega arith)) ∙ rest x refl
