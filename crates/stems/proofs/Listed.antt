-- A refused voice stands in the list once, and no other voice: `listed_once`. An order takes each voice once, and of its voices those whose
-- number is not 0 are listed. By induction on the order. Assumes nothing.
use mathlib.Core.Path.{◌≡◌, refl, sym, ap, ap₂, ◌∙◌}
use mathlib.Core.Bool.{not, ◌&&◌, cond}
use mathlib.Core.List.{List, [], ◌∷◌, map}
use mathlib.Core.Logic.{◌⊎◌, inl, inr}
use Prim.Native.Nat.{ℕ, zero, suc, ◌+◌, ◌≤◌, ◌<◌}
use native.Mathlib.Nat.{zero-add, suc-ne-zero}
use lib.Dec.{eqb, ltb}
use borrow.Author.Tests.{ne_eqb, lt-ltb, le-ltb}
use Rattle.lists.proofs.Walk.{below_or}
use Rattle.voice_frame.specs.VoiceFrame.{number_of}
use Rattle.stems.specs.Call.{Refusal, noted, whole_number}
use Rattle.stems.specs.Whole.{gets, refused_of, refusals, count, is_refused, ListedOnce}
use Rattle.stems.proofs.Orders.{hit, Hits, hits, Order, order}

-- the voices of a list of refused voices
abbrev voices : List Refusal → List ℕ
voices rs = map (λ r. r.voice) rs

-- how often a voice with this number is listed that stands in the order so often
abbrev listed : ℕ → ℕ → ℕ
listed zero times = 0
listed (suc n) times = times

noted_count : (v w n : ℕ) (rs : List Refusal) → count v (voices (noted w n rs)) ≡ listed n (hit (eqb v w)) + count v (voices rs)
unfolding count noted
noted_count v w zero rs = sym (zero-add (count v (voices rs)))
noted_count v w (suc n) rs = refl

listed_none : (n : ℕ) → listed n 0 ≡ 0
listed_none zero = refl
listed_none (suc n) = refl

listed_both : (n a b : ℕ) → listed n a + listed n b ≡ listed n (a + b)
listed_both zero a b = refl
listed_both (suc n) a b = refl

refused_count : (number : ℕ → ℕ) (v : ℕ) (vs : List ℕ) → count v (voices (refused_of number vs)) ≡ listed (number v) (count v vs)
unfolding count refused_of
refused_count number v [] = sym (listed_none (number v))
refused_count number v (w ∷ ws) =
    noted_count v w (number w) (refused_of number ws)
    ∙ ap₂ (λ a b. a + b) (first (hits v w)) (refused_count number v ws)
    ∙ listed_both (number v) (hit (eqb v w)) (count v ws)
  where
    first : Hits v w → listed (number w) (hit (eqb v w)) ≡ listed (number v) (hit (eqb v w))
    first (inl h) = ap (λ u. listed (number u) (hit (eqb v w))) h.0
    first (inr h) =
        ap (listed (number w)) h.1 ∙ listed_none (number w) ∙ sym (ap (listed (number v)) h.1 ∙ listed_none (number v))

-- in an order that takes each voice once
once : (n v : ℕ) (vs : List ℕ) → Order vs → listed n (count v vs) ≡ cond (ltb v 24 && not (eqb n 0)) 1 0
once n v vs o = go (below_or v 24)
  where
    yes_no : (n : ℕ) → listed n 1 ≡ cond (not (eqb n 0)) 1 0
    yes_no zero = refl
    yes_no (suc n) = sym (ap (λ b. cond (not b) 1 0) (ne_eqb (suc n) 0 (suc-ne-zero n)))

    go : (v < 24) ⊎ (24 ≤ v) → listed n (count v vs) ≡ cond (ltb v 24 && not (eqb n 0)) 1 0
    go (inl h) = ap (listed n) (o.one v h) ∙ yes_no n ∙ ap (λ b. cond (b && not (eqb n 0)) 1 0) (sym (lt-ltb v 24 h))
    go (inr h) = ap (listed n) (o.none v h) ∙ listed_none n ∙ ap (λ b. cond (b && not (eqb n 0)) 1 0) (sym (le-ltb v 24 h))

pub listed_once : ListedOnce
unfolding count refusals is_refused
listed_once fx x rs l v = ap (λ r. count v (voices r)) l.is ∙ go (whole_number fx x)
  where
    number : ℕ → ℕ
    number u = number_of (gets fx x.memory u)

    go : (n : ℕ) → count v (voices (refusals n fx x l.order)) ≡ cond (is_refused n fx x v) 1 0
    go zero = refused_count number v l.order ∙ once (number v) v l.order (order l.each_once)
    go (suc n) = refl
