-- An order that takes each voice once: how often a voice stands in it, and sums over it. Orders that are permutations of each other agree
-- in both, by induction on the permutation, and for the order down from 23 both are known. Assumes nothing.
use mathlib.Core.Path.{◌≡◌, refl, sym, ap, ap₂, ◌∙◌}
use mathlib.Core.Logic.{◌≢◌, ◌⊎◌, inl, inr}
use mathlib.Core.Bool.{Bool, true, false, cond}
use mathlib.Core.List.Permᴰ
use mathlib.Core.List.{List, [], ◌∷◌, Permᴰ}
use Prim.Native.Nat.{ℕ, zero, suc, ◌+◌, ◌≤◌, ◌<◌}
use native.Mathlib.Decide.{dec_lt}
use native.Mathlib.Omega.{arith}
use lib.Dec.{eqb}
use lib.IntN.{ℤ, pos, ◌+ℤ◌, +ℤ_assoc, +ℤ_comm}
use borrow.Author.Tests.{eqb-true, eq-eqb, ne_eqb, eqb-false}
use Rattle.lists.proofs.Lowest.{holds_or}
use Rattle.stems.specs.Call.{up_to, sum_of}
use Rattle.stems.specs.Whole.{count}

-- ---- how often v stands in a list

abbrev pub hit : Bool → ℕ
hit b = cond b 1 0

-- the first of a list is v, or it is not
abbrev pub Hits : ℕ → ℕ → Type 0
Hits v w = ((w ≡ v) × (hit (eqb v w) ≡ 1)) ⊎ ((w ≢ v) × (hit (eqb v w) ≡ 0))

pub hits : (v w : ℕ) → Hits v w
hits v w = go (holds_or (eqb v w))
  where
    go : (eqb v w ≡ true) ⊎ (eqb v w ≡ false) → Hits v w
    go (inl e) = inl (sym (eqb-true v w e), ap hit e)
    go (inr e) = inr (λ p. eqb-false v w e (sym p), ap hit e)

pub count_zero : (v w : ℕ) (ws : List ℕ) → count v (w ∷ ws) ≡ 0 → (w ≢ v) × (count v ws ≡ 0)
unfolding count
count_zero v w ws e = go (hits v w)
  where
    go : Hits v w → (w ≢ v) × (count v ws ≡ 0)
    go (inl h) = absurd (omega arith)
    go (inr h) = (h.0, omega arith)

-- where v stands in a list once: it is the first and comes no more, or it comes later once
abbrev pub Once : ℕ → ℕ → List ℕ → Type 0
Once v w ws = ((w ≡ v) × (count v ws ≡ 0)) ⊎ ((w ≢ v) × (count v ws ≡ 1))

pub count_one : (v w : ℕ) (ws : List ℕ) → count v (w ∷ ws) ≡ 1 → Once v w ws
unfolding count
count_one v w ws e = go (hits v w)
  where
    go : Hits v w → Once v w ws
    go (inl h) = inl (h.0, omega arith)
    go (inr h) = inr (h.0, omega arith)

-- where it stands in a list
pub stands_first : (w : ℕ) (ws : List ℕ) → 0 < count w (w ∷ ws)
unfolding count
stands_first w ws = omega (arith, ap hit (eq-eqb w w refl))

pub stands_later : (v w : ℕ) (ws : List ℕ) → 0 < count v ws → 0 < count v (w ∷ ws)
unfolding count
stands_later v w ws h = omega arith

pub stands_in : (v w : ℕ) (ws : List ℕ) → 0 < count v (w ∷ ws) → (w ≡ v) ⊎ (0 < count v ws)
unfolding count
stands_in v w ws h = go (hits v w)
  where
    go : Hits v w → (w ≡ v) ⊎ (0 < count v ws)
    go (inl e) = inl e.0
    go (inr e) = inr (omega arith)

pub stands_other : (v w : ℕ) (ws : List ℕ) → count w ws ≡ 0 → 0 < count v ws → w ≢ v
stands_other v w ws c h e = omega (arith, ap (λ u. count u ws) e)

pub count_alone : (v : ℕ) → count v (v ∷ []) ≡ 1
unfolding count
count_alone v = ap (λ b. hit b + 0) (eq-eqb v v refl)

-- ---- each once, each below 24, and the sum of f over a list

abbrev pub Below : List ℕ → Type 0
Below [] = Unit {0}
Below (w ∷ ws) = (w < 24) × Below ws

abbrev pub Distinct : List ℕ → Type 0
Distinct [] = Unit {0}
Distinct (w ∷ ws) = (count w ws ≡ 0) × Distinct ws

unfoldable pub sum : (ℕ → ℤ) → List ℕ → ℤ
sum f [] = pos 0
sum f (w ∷ ws) = f w +ℤ sum f ws

perm_count : (v : ℕ) {l₁ l₂ : List ℕ} → Permᴰ l₁ l₂ → count v l₁ ≡ count v l₂
unfolding count
perm_count v Permᴰ.nil = refl
perm_count v (Permᴰ.cons e d) = ap₂ (λ x y. hit (eqb v x) + y) e (perm_count v d)
perm_count v (Permᴰ.swap {a} {b} {a'} {b'} {l} e₁ e₂) = rw (e₁, e₂) (swapped (hit (eqb v b')) (hit (eqb v a')) (count v l))
  where
    swapped : (x y z : ℕ) → x + (y + z) ≡ y + (x + z)
    swapped x y z = omega arith
perm_count v (Permᴰ.trans d₁ d₂) = perm_count v d₁ ∙ perm_count v d₂

perm_sum : (f : ℕ → ℤ) {l₁ l₂ : List ℕ} → Permᴰ l₁ l₂ → sum f l₁ ≡ sum f l₂
unfolding sum
perm_sum f Permᴰ.nil = refl
perm_sum f (Permᴰ.cons e d) = ap₂ (λ x y. f x +ℤ y) e (perm_sum f d)
perm_sum f (Permᴰ.swap {a} {b} {a'} {b'} {l} e₁ e₂) = rw (e₁, e₂) (swapped (f b') (f a') (sum f l))
  where
    swapped : (x y z : ℤ) → x +ℤ (y +ℤ z) ≡ y +ℤ (x +ℤ z)
    swapped x y z = sym (+ℤ_assoc x y z) ∙ ap (λ (w : ℤ). w +ℤ z) (+ℤ_comm x y) ∙ +ℤ_assoc y x z
perm_sum f (Permᴰ.trans d₁ d₂) = perm_sum f d₁ ∙ perm_sum f d₂

-- ---- the order down from n - 1, in which each number below n stands once

down : ℕ → List ℕ
down zero = []
down (suc n) = n ∷ down n

up_down : (n : ℕ) → Permᴰ (up_to n) (down n)
unfolding up_to down
up_down zero = Permᴰ.nil
up_down (suc n) =
    Permᴰ.trans (Permᴰ.middle n (up_to n) []) (Permᴰ.cons refl (Permᴰ.trans (Permᴰ.append-nil (up_to n)) (up_down n)))

count_down_ge : (n v : ℕ) → n ≤ v → count v (down n) ≡ 0
unfolding count down
count_down_ge zero v h = refl
count_down_ge (suc n) v h = omega (arith, ap hit (ne_eqb v n (λ e. omega arith)), count_down_ge n v (omega arith))

count_down_lt : (n v : ℕ) → v < n → count v (down n) ≡ 1
unfolding count down
count_down_lt zero v h = absurd (omega arith)
count_down_lt (suc n) v h = go (hits v n) (count_down_lt n v)
  where
    go : Hits v n → (v < n → count v (down n) ≡ 1) → count v (down (suc n)) ≡ 1
    go (inl e) more = omega (arith, count_down_ge n v (omega arith))
    go (inr e) more = omega (arith, more (omega arith))

down_sum : (f : ℕ → ℤ) (n : ℕ) → sum f (down n) ≡ sum_of n f
unfolding sum down sum_of
down_sum f zero = refl
down_sum f (suc n) = ap (λ (z : ℤ). f n +ℤ z) (down_sum f n)

-- ---- an order that takes each voice once

at_most : (vs : List ℕ) → ((w : ℕ) → count w vs ≤ 1) → Distinct vs
unfolding count
at_most [] h = tt
at_most (w ∷ ws) h = (omega (arith, h w, ap hit (eq-eqb w w refl)), at_most ws (λ u. omega (arith, h u)))

below : (vs : List ℕ) → ((w : ℕ) → 24 ≤ w → count w vs ≡ 0) → Below vs
below [] h = tt
below (w ∷ ws) h = (go (dec_lt w 24), below ws (λ u p. (count_zero u w ws (h u p)).1))
  where
    go : Dec (w < 24) → w < 24
    go (yes p) = p
    go (no p) = absurd ((count_zero w w ws (h w (omega arith))).0 refl)

pub record Order (vs : List ℕ) : Type 0 where
  pub one : (v : ℕ) → v < 24 → count v vs ≡ 1
  pub none : (v : ℕ) → 24 ≤ v → count v vs ≡ 0
  pub distinct : Distinct vs
  pub below24 : Below vs
  pub sums : (f : ℕ → ℤ) → sum f vs ≡ sum_of 24 f

pub order : {vs : List ℕ} → Permᴰ vs (up_to 24) → Order vs
order {vs} d = record {
  one = λ v h. same v ∙ count_down_lt 24 v h;
  none = λ v h. same v ∙ count_down_ge 24 v h;
  distinct = at_most vs (λ w. go w (dec_lt w 24));
  below24 = below vs (λ w h. same w ∙ count_down_ge 24 w h);
  sums = λ f. perm_sum f (Permᴰ.trans d (up_down 24)) ∙ down_sum f 24;
}
  where
    same : (v : ℕ) → count v vs ≡ count v (down 24)
    same v = perm_count v (Permᴰ.trans d (up_down 24))

    go : (w : ℕ) → Dec (w < 24) → count w vs ≤ 1
    go w (yes h) = omega (arith, same w ∙ count_down_lt 24 w h)
    go w (no h) = omega (arith, same w ∙ count_down_ge 24 w (omega arith))

-- ---- sums of functions that agree

pub sums_same : (f g : ℕ → ℤ) (n : ℕ) → ((v : ℕ) → v < n → f v ≡ g v) → sum_of n f ≡ sum_of n g
unfolding sum_of
sums_same f g zero h = refl
sums_same f g (suc n) h = ap₂ (λ x y. x +ℤ y) (h n (omega arith)) (sums_same f g n (λ v p. h v (omega arith)))
