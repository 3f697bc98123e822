-- `filters::state::BiquadFilter::sum` meets its contract: five products with their bounds, summed in turn. Assumes nothing.
use Prim.Native.Nat.{ℕ, ◌+◌}
use lib.Dec.{T}
use lib.IntN.{ℤ, pos, ◌+ℤ◌, ◌*ℤ◌}
use lib.ListN.{get_or}
use mir.Syntax.{w32, w64}
use mir.Val.{of_z, to_z}
use Rattle.numbers.specs.Within.{Is}
use Rattle.numbers.proofs.Bounds.{is_add, is_read, is_fits, is_wide}
use Rattle.filters.specs.declared.state.BiquadFilter.{BiquadFilter}
use Rattle.filters.specs.Range.{biquad_in_range}
use Rattle.filters.specs.Filter.{biquad_sum}
use Rattle.filters.proofs.Ranges.{ranged, handed, product_of, all_at}
use Rattle.filters.proofs.Passes.{Biquad, biquad_parts}
use Rattle.filters.proofs.state.BiquadFilter.sum.Goals as goal

-- a local of 64 bits as the code reads it
abbrev R : ℤ → ℤ
R z = to_z w64 (of_z w64 z)

-- what the code multiplies, of 32 bits each
abbrev Times : ℤ → ℤ → ℤ → Type 0
Times x y r = Is 1073741824 (to_z w32 (of_z w32 x) *ℤ to_z w32 (of_z w32 y)) r

-- what is multiplied, with its bound
module _ (f : BiquadFilter) (t : T (biquad_in_range f)) (i : ℕ) where
  parts : Biquad f
  parts = biquad_parts f t

  b : Is 32768 (get_or f.b i (pos 0)) (get_or f.b i (pos 0))
  b = ranged (get_or f.b i (pos 0)) (all_at f.b i parts.b)

  a : Is 32768 (get_or f.a i (pos 0)) (get_or f.a i (pos 0))
  a = ranged (get_or f.a i (pos 0)) (all_at f.a i parts.a)

  x : Is 32768 (get_or f.x i (pos 0)) (get_or f.x i (pos 0))
  x = ranged (get_or f.x i (pos 0)) (all_at f.x i parts.x)

  y : Is 32768 (get_or f.y i (pos 0)) (get_or f.y i (pos 0))
  y = ranged (get_or f.y i (pos 0)) (all_at f.y i parts.y)

-- the sums: of the sample x0 the code has k, and of the products p₁ to p₅
module _ (channel : ℕ) (f : BiquadFilter) (t : T (biquad_in_range f)) {x0 k : ℤ} (h : Is 32768 x0 k) where
  -- the definition's sum so far
  abbrev so-far₁ : ℤ
  so-far₁ = get_or f.b 0 (pos 0) *ℤ x0

  abbrev so-far₂ : ℤ
  so-far₂ = so-far₁ +ℤ get_or f.b 1 (pos 0) *ℤ get_or f.x channel (pos 0)

  abbrev so-far₃ : ℤ
  so-far₃ = so-far₂ +ℤ get_or f.b 2 (pos 0) *ℤ get_or f.x (channel + 2) (pos 0)

  abbrev so-far₄ : ℤ
  so-far₄ = so-far₃ +ℤ get_or f.a 0 (pos 0) *ℤ get_or f.y channel (pos 0)

  abbrev so-far₅ : ℤ
  so-far₅ = so-far₄ +ℤ get_or f.a 1 (pos 0) *ℤ get_or f.y (channel + 2) (pos 0)

  module _ {p₁ : ℤ} (h₁ : Times (get_or f.b 0 (pos 0)) k p₁) where
    sum₁ : Is 1073741824 so-far₁ p₁
    sum₁ = product_of (b f t 0) h h₁

    module _ {p₂ : ℤ} (h₂ : Times (get_or f.b 1 (pos 0)) (get_or f.x channel (pos 0)) p₂) where
      sum₂ : Is 2147483648 so-far₂ (R p₁ +ℤ R p₂)
      sum₂ = is_add (is_read w64 sum₁ tt) (is_read w64 (product_of (b f t 1) (x f t channel) h₂) tt)

      module _ {p₃ : ℤ} (h₃ : Times (get_or f.b 2 (pos 0)) (get_or f.x (channel + 2) (pos 0)) p₃) where
        sum₃ : Is 3221225472 so-far₃ (R (R p₁ +ℤ R p₂) +ℤ R p₃)
        sum₃ = is_add (is_read w64 sum₂ tt) (is_read w64 (product_of (b f t 2) (x f t (channel + 2)) h₃) tt)

        module _ {p₄ : ℤ} (h₄ : Times (get_or f.a 0 (pos 0)) (get_or f.y channel (pos 0)) p₄) where
          sum₄ : Is 4294967296 so-far₄ (R (R (R p₁ +ℤ R p₂) +ℤ R p₃) +ℤ R p₄)
          sum₄ = is_add (is_read w64 sum₃ tt) (is_read w64 (product_of (a f t 0) (y f t channel) h₄) tt)

          module _ {p₅ : ℤ} (h₅ : Times (get_or f.a 1 (pos 0)) (get_or f.y (channel + 2) (pos 0)) p₅) where
            sum₅ : Is 5368709120 so-far₅ (R (R (R (R p₁ +ℤ R p₂) +ℤ R p₃) +ℤ R p₄) +ℤ R p₅)
            sum₅ = is_add (is_read w64 sum₄ tt) (is_read w64 (product_of (a f t 1) (y f t (channel + 2)) h₅) tt)

pub term-requires-clause-x_in_range : goal.term-requires-clause-x_in_range
term-requires-clause-x_in_range c = handed (is_wide c.ranges.x c.from.ensures)

pub term-requires-2-clause-x_in_range : goal.term-requires-2-clause-x_in_range
term-requires-2-clause-x_in_range c = handed (x c.args.self.now c.requires.range c.args.channel)

pub overflow_add-forward : goal.overflow_add-forward
overflow_add-forward c =
    is_fits w64
    (sum₂ c.args.channel c.args.self.now c.requires.range (is_wide c.ranges.x c.from.ensures) c.term.ensures c.term-2.ensures) tt

pub term-requires-3-clause-a_in_range : goal.term-requires-3-clause-a_in_range
term-requires-3-clause-a_in_range c = handed (b c.args.self.now c.requires.range 2)

pub term-requires-3-clause-x_in_range : goal.term-requires-3-clause-x_in_range
term-requires-3-clause-x_in_range c = handed (x c.args.self.now c.requires.range (c.args.channel + 2))

pub overflow_add-forward-2 : goal.overflow_add-forward-2
overflow_add-forward-2 c =
    is_fits w64
    (sum₃ c.args.channel c.args.self.now c.requires.range (is_wide c.ranges.x c.from.ensures) c.term.ensures c.term-2.ensures
    c.term-3.ensures) tt

pub term-requires-4-clause-a_in_range : goal.term-requires-4-clause-a_in_range
term-requires-4-clause-a_in_range c = handed (a c.args.self.now c.requires.range 0)

pub term-requires-4-clause-x_in_range : goal.term-requires-4-clause-x_in_range
term-requires-4-clause-x_in_range c = handed (y c.args.self.now c.requires.range c.args.channel)

pub overflow_add-result : goal.overflow_add-result
overflow_add-result c =
    is_fits w64
    (sum₄ c.args.channel c.args.self.now c.requires.range (is_wide c.ranges.x c.from.ensures) c.term.ensures c.term-2.ensures
    c.term-3.ensures c.term-4.ensures) tt

pub term-requires-5-clause-a_in_range : goal.term-requires-5-clause-a_in_range
term-requires-5-clause-a_in_range c = handed (a c.args.self.now c.requires.range 1)

pub term-requires-5-clause-x_in_range : goal.term-requires-5-clause-x_in_range
term-requires-5-clause-x_in_range c = handed (y c.args.self.now c.requires.range (c.args.channel + 2))

pub overflow_add-result-2 : goal.overflow_add-result-2
overflow_add-result-2 c =
    is_fits w64
    (sum₅ c.args.channel c.args.self.now c.requires.range (is_wide c.ranges.x c.from.ensures) c.term.ensures c.term-2.ensures
    c.term-3.ensures c.term-4.ensures c.term-5.ensures) tt

pub returns : goal.returns
unfolding biquad_sum
returns c =
    is_read w64
    (sum₅ c.args.channel c.args.self.now c.requires.range (is_wide c.ranges.x c.from.ensures) c.term.ensures c.term-2.ensures
    c.term-3.ensures c.term-4.ensures c.term-5.ensures) tt
