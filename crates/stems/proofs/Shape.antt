-- What an accepted call's lengths and layout say: the places lie in the regions, and no two of them meet, so what one voice writes is no
-- byte of another. By the laws of an accepted layout, and by where the places of two voices end. Assumes nothing.
use mathlib.Core.Path.{◌≡◌, refl}
use mathlib.Core.Logic.{◌≢◌, ◌⊎◌, inl, inr}
use mathlib.Core.Bool.{true, false, not, cond, ◌||◌}
use Prim.Native.Nat.{ℕ, zero, suc, ◌+◌, ◌*◌, ◌≤◌, ◌<◌}
use native.Mathlib.Nat.{suc-ne-zero}
use native.Mathlib.Decide.{dec_lt}
use native.Mathlib.Omega.{arith}
use lib.Dec.{eqb, ltb, lit<}
use borrow.Author.Tests.{eqb-true, ltb-false, not-false}
use Rattle.lists.proofs.Bools.{or_neither, passed}
use Rattle.lists.proofs.Lowest.{holds_or}
use Rattle.lists.proofs.Splice.{Apart}
use Rattle.layout.specs.Exactly.{Sound}
use Rattle.layout.specs.Places.{place_at, apart_two, layout_number}
use Rattle.layout.specs.declared.Layout.{Layout}
use Rattle.layout.proofs.Places.{accepted, two_apart, one_shared}
use Rattle.window.specs.Window.{window_number}
use Rattle.stems.specs.declared.Fixed.{Fixed}
use Rattle.stems.specs.Memory.{Kind, itsConfiguration, itsStatus, itsCoefficients, theCounter, place_of, lane_length}
use Rattle.stems.specs.Call.{Lengths, or_else, wrong_voices, lengths_number}

-- ---- no number applies

pub neither : (n next : ℕ) → or_else n next ≡ 0 → (n ≡ 0) × (next ≡ 0)
neither zero next e = (refl, e)
neither (suc n) next e = absurd (suc-ne-zero n e)

-- 5 does not apply
pub voices_right : (records lanes : ℕ) → wrong_voices records lanes ≡ false
    → (records ≡ 24) × (lanes ≡ 24 * lane_length lanes) × (lane_length lanes ≤ 65536)
voices_right records lanes e =
    let L = lane_length lanes in
    let counts = or_neither (not (eqb records 24)) (not (eqb lanes (24 * L)) || ltb 65536 L) e in
    let more = or_neither (not (eqb lanes (24 * L))) (ltb 65536 L) counts.1 in
    (eqb-true records 24 (not-false _ counts.0), eqb-true lanes (24 * L) (not-false _ more.0), ltb-false 65536 L more.1)

-- what that says of the lengths
pub record Fits (fx : Fixed) (s : Lengths) : Type 0 where
  pub layout : Sound s.region0 s.region1 fx.layout
  pub records : s.records ≡ 24
  pub lanes : s.lanes ≡ 24 * lane_length s.lanes
  pub short : lane_length s.lanes ≤ 65536

pub fits : (fx : Fixed) (s : Lengths) (mixes : ℕ) → lengths_number fx s mixes ≡ 0 → Fits fx s × (mixes ≡ 1920)
unfolding lengths_number
fits fx s mixes e =
    let l = layout_number s.region0 s.region1 fx.layout in
    let w = window_number fx.base s.window in
    let last : ℕ = cond (not (eqb mixes 1920)) 6 0 in
    let rest : ℕ = cond (wrong_voices s.records s.lanes) 5 last in
    let one = neither l (or_else w rest) e in
    let five = passed (wrong_voices s.records s.lanes) 4 last (neither w rest one.1).1 in
    let six = passed (not (eqb mixes 1920)) 5 0 five.1 in
    let right = voices_right s.records s.lanes five.0 in (
      record {
        layout = accepted s.region0 s.region1 fx.layout one.0;
        records = right.0;
        lanes = right.1;
        short = right.2;
      },
      eqb-true mixes 1920 (not-false _ six.0),
    )

-- ---- the places of two voices

pub within : (X M Y N a m b n : ℕ) → Apart X M Y N → X ≤ a → a + m ≤ X + M → Y ≤ b → b + n ≤ Y + N → Apart a m b n
within X M Y N a m b n (inl h) p q r s = inl (omega arith)
within X M Y N a m b n (inr h) p q r s = inr (omega arith)

flip : (X M Y N : ℕ) → Apart X M Y N → Apart Y N X M
flip X M Y N (inl h) = inr h
flip X M Y N (inr h) = inl h

apart_configurations : (c w v : ℕ) → w ≢ v → Apart (c + 192 * w) 192 (c + 192 * v) 192
apart_configurations c w v h = go (dec_lt w v)
  where
    go : Dec (w < v) → Apart (c + 192 * w) 192 (c + 192 * v) 192
    go (yes k) = inl (omega arith)
    go (no k) = inr (omega arith)

apart_statuses : (c w v : ℕ) → w ≢ v → Apart (c + 12 * w) 12 (c + 12 * v) 12
apart_statuses c w v h = go (dec_lt w v)
  where
    go : Dec (w < v) → Apart (c + 12 * w) 12 (c + 12 * v) 12
    go (yes k) = inl (omega arith)
    go (no k) = inr (omega arith)

module _ (l : Layout) (first second : ℕ) (sound : Sound first second l) where
  -- two of the seven places
  places_apart : (i j : ℕ) → i < j → j < 7 → 0 < (place_at l i).size → 0 < (place_at l j).size
      → Apart (place_at l i).at (place_at l i).size (place_at l j).at (place_at l j).size
  places_apart i j h k s t = go (holds_or (apart_two (place_at l i) (place_at l j)))
    where
      go : (apart_two (place_at l i) (place_at l j) ≡ true) ⊎ (apart_two (place_at l i) (place_at l j) ≡ false)
          → Apart (place_at l i).at (place_at l i).size (place_at l j).at (place_at l j).size
      go (inl e) = two_apart (place_at l i) (place_at l j) e
      go (inr e) = let b = one_shared (place_at l i) (place_at l j) s t e in absurd (sound.own i j b.0 h k b.1 b.2)

  cs : Apart l.configurations 4608 l.statuses 288
  cs = places_apart 0 1 (lit< tt) (lit< tt) (lit< tt) (lit< tt)

  ck : Apart l.configurations 4608 l.coefficients 768
  ck = places_apart 0 2 (lit< tt) (lit< tt) (lit< tt) (lit< tt)

  ct : Apart l.configurations 4608 l.frame_counter 2
  ct = places_apart 0 3 (lit< tt) (lit< tt) (lit< tt) (lit< tt)

  sk : Apart l.statuses 288 l.coefficients 768
  sk = places_apart 1 2 (lit< tt) (lit< tt) (lit< tt) (lit< tt)

  st : Apart l.statuses 288 l.frame_counter 2
  st = places_apart 1 3 (lit< tt) (lit< tt) (lit< tt) (lit< tt)

  module _ (w v : ℕ) (w<24 : w < 24) (v<24 : v < 24) (other : w ≢ v) where
    pub apart_configuration : (k : Kind) → Apart (place_of l w itsConfiguration).at 192 (place_of l v k).at (place_of l v k).size
    unfolding place_of
    apart_configuration itsConfiguration = apart_configurations l.configurations w v other
    apart_configuration itsStatus = within _ _ _ _ _ _ _ _ cs (omega arith) (omega arith) (omega arith) (omega arith)
    apart_configuration itsCoefficients = within _ _ _ _ _ _ _ _ ck (omega arith) (omega arith) (omega arith) (omega arith)
    apart_configuration theCounter = within _ _ _ _ _ _ _ _ ct (omega arith) (omega arith) (omega arith) (omega arith)

    pub apart_status : (k : Kind) → Apart (place_of l w itsStatus).at 12 (place_of l v k).at (place_of l v k).size
    unfolding place_of
    apart_status itsConfiguration = within _ _ _ _ _ _ _ _ (flip _ _ _ _ cs) (omega arith) (omega arith) (omega arith) (omega arith)
    apart_status itsStatus = apart_statuses l.statuses w v other
    apart_status itsCoefficients = within _ _ _ _ _ _ _ _ sk (omega arith) (omega arith) (omega arith) (omega arith)
    apart_status theCounter = within _ _ _ _ _ _ _ _ st (omega arith) (omega arith) (omega arith) (omega arith)
