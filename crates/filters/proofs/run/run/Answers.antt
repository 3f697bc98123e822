-- `filters::run::run` meets its contract: after k turns the first 4 k samples are passed, and then after i the first i. Assumes nothing.
use mathlib.Core.Path.{ap}
use Prim.Native.Nat.{◌+◌, ◌*◌, ◌%◌}
use native.Mathlib.Omega.{arith}
use lib.ListN.{set}
use Rattle.filters.proofs.Runs.{turn_to, four}
use Rattle.filters.proofs.run.run.Goals as goal

pub loop-k-preserved : goal.loop-k-preserved
loop-k-preserved g c =
    let m = g.F.Filter in
    let l = c.loop-k in
    let i = l.k * 4 in
    let a = c.pass.ensures in
    let b = c.pass-in-loop-k.ensures in
    let d = c.pass-in-loop-k-2.ensures in
    let e = c.pass-in-loop-k-3.ensures in (
      four m.value m.next c.args.filter.now c.args.samples.now i ((l.k + 1) * 4) (omega arith) (omega arith) l.invariant.0
          (ap (set _ i) a.value) a.filter (ap (set _ (i + 1)) b.value) b.filter (ap (set _ (i + 2)) d.value) d.filter
          (ap (set _ (i + 3)) e.value) e.filter,
      e.stays,
    )

pub loop-i-preserved : goal.loop-i-preserved
loop-i-preserved g c =
    let m = g.F.Filter in
    let l = c.loop-i in
    let r = c.pass-in-loop-i in (
      turn_to m.value m.next c.args.filter.now c.args.samples.now l.samples l.f (l.i % 2) l.i ((l.i + 1) % 2) (l.i + 1) _ r.new.self
          (omega arith) (omega arith) (omega arith) l.invariant.0 (ap (set l.samples l.i) r.ensures.value) r.ensures.filter,
      r.ensures.stays,
    )
