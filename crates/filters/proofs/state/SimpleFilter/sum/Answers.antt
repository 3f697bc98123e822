-- `filters::state::SimpleFilter::sum` meets its contract: two products with their bounds, and their sum. Assumes nothing.
use Prim.Native.Nat.{ℕ}
use lib.Dec.{T}
use lib.IntN.{ℤ, pos, ◌+ℤ◌, ◌*ℤ◌}
use lib.ListN.{get_or}
use mir.Syntax.{Width, w32, w64}
use mir.Val.{of_z, to_z}
use Rattle.numbers.specs.Within.{Is}
use Rattle.numbers.proofs.Bounds.{is_add, is_read, is_fits, is_wide}
use Rattle.filters.specs.declared.state.SimpleFilter.{SimpleFilter}
use Rattle.filters.specs.Range.{simple_in_range}
use Rattle.filters.specs.Filter.{simple_sum}
use Rattle.filters.proofs.Ranges.{ranged, handed, product_of, all_at}
use Rattle.filters.proofs.Passes.{simple_parts}
use Rattle.filters.proofs.state.SimpleFilter.sum.Goals as goal

-- a local as the code reads it
abbrev R : Width → ℤ → ℤ
R w z = to_z w (of_z w z)

-- of the sample x the code has k, and of the products p and q
sum :
    (channel : ℕ) (f : SimpleFilter) {x k p q : ℤ} → T (simple_in_range f) → Is 32768 x k
    → Is 1073741824 (R w32 f.b0 *ℤ R w32 k) p → Is 1073741824 (R w32 f.a1 *ℤ R w32 (get_or f.y1 channel (pos 0))) q
    → Is 2147483648 (simple_sum channel f x) (R w64 p +ℤ R w64 q)
unfolding simple_sum
sum channel f t x p q =
    let parts = simple_parts f t in
    let y1 = ranged (get_or f.y1 channel (pos 0)) (all_at f.y1 channel parts.y1) in
    is_add (is_read w64 (product_of (ranged f.b0 parts.b0) x p) tt) (is_read w64 (product_of (ranged f.a1 parts.a1) y1 q) tt)

pub term-requires-clause-x_in_range : goal.term-requires-clause-x_in_range
term-requires-clause-x_in_range c = handed (is_wide c.ranges.x c.from.ensures)

pub term-requires-2-clause-x_in_range : goal.term-requires-2-clause-x_in_range
term-requires-2-clause-x_in_range c =
    let f = c.args.self.now in
    handed (ranged (get_or f.y1 c.args.channel (pos 0)) (all_at f.y1 c.args.channel (simple_parts f c.requires.range).y1))

pub overflow_add-result : goal.overflow_add-result
overflow_add-result c =
    is_fits w64 (sum c.args.channel c.args.self.now c.requires.range (is_wide c.ranges.x c.from.ensures) c.term.ensures c.term-2.ensures) tt

pub returns : goal.returns
returns c =
    is_read w64 (sum c.args.channel c.args.self.now c.requires.range (is_wide c.ranges.x c.from.ensures) c.term.ensures c.term-2.ensures) tt
