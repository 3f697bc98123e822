-- The number of a call as a whole, by which test is the first that applies. Each test is put at its value in the chain. Assumes nothing.
use mathlib.Core.Path.{◌≡◌, refl, sym, ap, ◌∙◌}
use mathlib.Core.Bool.{true, false, not, ◌||◌}
use mathlib.Core.List.{[], ◌∷◌}
use Prim.Native.Nat.{ℕ, zero, suc, ◌*◌}
use native.Mathlib.Omega.{arith}
use lib.Dec.{eqb, ltb}
use borrow.Author.Tests.{eq-eqb, ne_eqb}
use Rattle.lists.specs.Lowest.{rule, lowest}
use Rattle.lists.proofs.Bools.{or_no, or_yes, cond_yes, cond_no, not_yes, not_no}
use Rattle.refusals.specs.declared.Refusal.{Refusal as Reason}
use Rattle.refusals.specs.Numbers.{number}
use Rattle.refusals.proofs.Numbers.{positive}
use Rattle.layout.specs.Places.{layout_number}
use Rattle.window.specs.Window.{window_number}
use Rattle.numbers.specs.Sizes.{MIXES}
use Rattle.stems.specs.declared.Fixed.{Fixed}
use Rattle.stems.specs.Memory.{VOICES, lane_length}
use Rattle.stems.specs.Call.{Lengths, or_else, wrong_voices, lengths_number}

-- a number, or the next where it is 0
pub first_one : (n next : ℕ) → (n ≡ 0 → ⊥) → or_else n next ≡ n
first_one zero next h = absurd (h refl)
first_one (suc n) next h = refl

next_one : (n next : ℕ) → n ≡ 0 → or_else n next ≡ next
next_one n next e = ap (λ (k : ℕ). or_else k next) e

module _ (fx : Fixed) (s : Lengths) (mixes : ℕ) where
  abbrev whole : ℕ
  whole = lengths_number fx s mixes

  abbrev places : ℕ
  places = layout_number s.region0 s.region1 fx.layout

  abbrev far : ℕ
  far = window_number fx.base s.window

  abbrev rest : ℕ
  rest = lowest (rule (wrong_voices s.records s.lanes) 5 ∷ rule (not (eqb mixes MIXES)) 6 ∷ [])

  pub by_layout : (e : Reason) → number e ≡ places → number e ≡ whole
  unfolding lengths_number
  by_layout e is = is ∙ sym (first_one places (or_else far rest) (λ z. omega (arith, positive e, is, z)))

  pub by_window : places ≡ 0 → (e : Reason) → number e ≡ far → number e ≡ whole
  unfolding lengths_number
  by_window p e is =
      is ∙ sym (next_one places (or_else far rest) p ∙ first_one far rest (λ z. omega (arith, positive e, is, z)))

  further : places ≡ 0 → far ≡ 0 → whole ≡ rest
  unfolding lengths_number
  further e f = next_one places (or_else far rest) e ∙ next_one far rest f

  pub by_voices : places ≡ 0 → far ≡ 0 → wrong_voices s.records s.lanes ≡ true → whole ≡ 5
  by_voices e f w = further e f ∙ cond_yes 5 _ w

  pub by_mixes : places ≡ 0 → far ≡ 0 → wrong_voices s.records s.lanes ≡ false → (mixes ≡ MIXES → ⊥) → whole ≡ 6
  by_mixes e f w h = further e f ∙ cond_no 5 _ w ∙ cond_yes 6 0 (not_no (ne_eqb mixes MIXES h))

  pub none : places ≡ 0 → far ≡ 0 → wrong_voices s.records s.lanes ≡ false → mixes ≡ MIXES → whole ≡ 0
  none e f w h = further e f ∙ cond_no 5 _ w ∙ cond_no 6 0 (not_yes (eq-eqb mixes MIXES h))

-- ---- number 5, by its three tests

module _ (records lanes : ℕ) where
  abbrev L : ℕ
  L = lane_length lanes

  pub wrong_records : (records ≡ VOICES → ⊥) → wrong_voices records lanes ≡ true
  wrong_records h = or_yes _ (not_no (ne_eqb records VOICES h))

  counted : records ≡ VOICES → wrong_voices records lanes ≡ (not (eqb lanes (VOICES * L)) || ltb 65536 L)
  counted e = or_no _ (not_yes (eq-eqb records VOICES e))

  pub wrong_lanes : records ≡ VOICES → not (eqb lanes (VOICES * L)) ≡ true → wrong_voices records lanes ≡ true
  wrong_lanes e h = counted e ∙ or_yes _ h

  pub by_length : records ≡ VOICES → not (eqb lanes (VOICES * L)) ≡ false → wrong_voices records lanes ≡ ltb 65536 L
  by_length e h = counted e ∙ or_no _ h
