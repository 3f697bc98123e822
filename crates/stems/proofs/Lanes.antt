-- The lanes: where a lane lies is decided by how many samples the lanes have together, which stores keep, so the laws of parts hold of
-- lanes. Assumes nothing.
use mathlib.Core.Path.{◌≡◌, refl, sym, ap, ◌∙◌, subst}
use mathlib.Core.Logic.{◌≢◌, inl, inr}
use mathlib.Core.List.{List}
use Prim.Native.Nat.{ℕ, ◌+◌, ◌*◌, ◌≤◌, ◌<◌}
use native.Mathlib.Nat.{zero-add, mul-le-mul_right, suc-mul, le_trans, le_of_eq}
use native.Mathlib.Decide.{dec_lt}
use native.Mathlib.Omega.{arith}
use lib.IntN.{ℤ}
use lib.ListN.{length}
use lib.Seq.{take_all}
use Rattle.lists.specs.Joined.{joined}
use Rattle.lists.specs.Splice.{part, splice}
use Rattle.lists.proofs.Joined.{joined_is}
use Rattle.lists.proofs.Splice.{Apart, length_part, length_splice, same_splice, other_splice, part_splice}
use Rattle.stems.specs.Memory.{lane_length, lane_at, lane_of}

-- a lane ends where the next begins, or before
pub lane_end : (L w v : ℕ) → w < v → w * L + L ≤ v * L
lane_end L w v h = rw (← suc-mul w L) (mul-le-mul_right L h)

apart_lanes : (L w v : ℕ) → w ≢ v → Apart (w * L) L (v * L) L
apart_lanes L w v h = go (dec_lt w v)
  where
    go : Dec (w < v) → Apart (w * L) L (v * L) L
    go (yes k) = inl (lane_end L w v k)
    go (no k) = inr (lane_end L v w (omega arith))

module _ (v : ℕ) where
  pub lane_is : (x : List ℤ) (n : ℕ) → lane_length (length x) ≡ n → lane_of v x ≡ part (v * n) n x
  unfolding lane_of lane_at
  lane_is x n e = ap (λ (m : ℕ). part (v * m) m x) e

  pub lane_long : (x : List ℤ) → v < 24 → length x ≡ 24 * lane_length (length x) → length (lane_of v x) ≡ lane_length (length x)
  lane_long x h e =
      let L = lane_length (length x) in
      ap length (lane_is x L refl) ∙ length_part (v * L) L x (le_trans (lane_end L v 24 h) (le_of_eq (sym e)))

  -- two lists of lanes as long as each other, in which the lane of v is the same
  module _ (x y : List ℤ) (long : length x ≡ length y) (same : lane_of v x ≡ lane_of v y) where
    pub parts_same : let L = lane_length (length x) in part (v * L) L x ≡ part (v * L) L y
    parts_same = let L = lane_length (length x) in sym (lane_is x L refl) ∙ same ∙ lane_is y L (ap lane_length (sym long))

    pub same_lane : (new : List ℤ) → lane_of v (splice x (lane_at v x) new) ≡ lane_of v (splice y (lane_at v y) new)
    unfolding lane_at
    same_lane new =
        let L = lane_length (length x) in
        lane_is (splice x (lane_at v x) new) L (ap lane_length (length_splice x (lane_at v x) new))
        ∙ same_splice (v * L) L (lane_at v x) new x y parts_same
        ∙ ap (λ (a : ℕ). part (v * L) L (splice y a new)) at
        ∙ sym (lane_is (splice y (lane_at v y) new) L (ap lane_length (length_splice y (lane_at v y) new ∙ sym long)))
      where
        at : lane_at v x ≡ lane_at v y
        at = ap (λ (n : ℕ). v * lane_length n) long

  -- the lane of another voice stored
  pub other_lane :
      (w : ℕ) (x new : List ℤ) → w ≢ v → length new ≡ lane_length (length x) → lane_of v (splice x (lane_at w x) new) ≡ lane_of v x
  unfolding lane_at
  other_lane w x new other long =
      let L = lane_length (length x) in
      lane_is (splice x (w * L) new) L (ap lane_length (length_splice x (w * L) new))
      ∙ other_splice (v * L) L (w * L) new x (rw long (apart_lanes L w v other))
      ∙ sym (lane_is x L refl)

  -- its own stored
  pub own_lane :
      (x new : List ℤ) → v < 24 → length x ≡ 24 * lane_length (length x) → length new ≡ lane_length (length x)
      → lane_of v (splice x (lane_at v x) new) ≡ new
  unfolding lane_at
  own_lane x new h e long =
      let L = lane_length (length x) in
      let room : v * L + L ≤ length x = le_trans (lane_end L v 24 h) (le_of_eq (sym e)) in
      lane_is (splice x (v * L) new) L (ap lane_length (length_splice x (v * L) new))
      ∙ ap (λ n. part (v * L) n (splice x (v * L) new)) (sym long)
      ∙ part_splice (v * L) new x (subst (λ n. v * L + n ≤ length x) (sym long) room)

-- the lanes are the 24 lanes joined
pub lanes_joined : (x : List ℤ) (f : ℕ → List ℤ) → length x ≡ 24 * lane_length (length x) → ((v : ℕ) → v < 24 → lane_of v x ≡ f v)
    → x ≡ joined 24 f
lanes_joined x f e h =
    let L = lane_length (length x) in
    sym (take_all (24 * L) x (le_of_eq e))
    ∙ joined_is 0 L 24 x f (λ v p. ap (λ n. part n L x) (zero-add (v * L)) ∙ sym (lane_is v x L refl) ∙ h v p)
