-- `filters::run::run` meets its contract: after k turns the first 4 k samples are passed, and then after i the first i. Assumes nothing.
use Prim.Native.Nat.{◌*◌, ◌%◌}
use lib.Dec.{T}
use Rattle.filters.proofs.Runs.{Done}
use Rattle.filters.proofs.run.run.Given as goal

abbrev pub invariant-loop-k : goal.invariant-loop-k
invariant-loop-k g l =
    let m = g.F.Filter in
    Done m.value m.next l.fn.filter l.initial.samples l.samples l.f 0 (l.k * 4) × T (m.in_range l.f)

abbrev pub invariant-loop-i : goal.invariant-loop-i
invariant-loop-i g l =
    let m = g.F.Filter in
    Done m.value m.next l.fn.filter l.fn.samples l.samples l.f (l.i % 2) l.i × T (m.in_range l.f)
