-- `replaying::held::read_each` meets its contract: the loop fills the values from the front. Assumes nothing.
use Rattle.std.proofs.Common.{◌≡◌, ◌≤◌, ℕ, List, ◌++◌, length, map, take, drop, set, get_or, ap, ◌∙◌, sym, arith}
use Rattle.std.proofs.lemmas.List.{take_min, drop_min, take_all}
use Rattle.std.proofs.Math.Nat.{min_comm, min-le_left, min-le_right}
use native.Mathlib.Numerals.{add-one}
use lib.Seq.{length-take-le}
use Rattle.replaying.proofs.Each.{fill_more}
use Rattle.replaying.proofs.held.read_each.Goals as goal

pub loop-i-preserved : goal.loop-i-preserved
loop-i-preserved g c =
    let l = c.loop-i in
    let held = g.T.Held.held in
    let old = c.args.values.now in
    let parts = c.as_chunks.result.0.now in
    let m = c.min-count.result in
    let items = take m parts in
    let d = c.part-item.result in
    let inside : m ≤ length parts = omega (arith, c.min-count.ensures, min-le_left (length parts) (length old)) in
    let least : m ≤ length old = omega (arith, c.min-count.ensures, min-le_right (length parts) (length old)) in
    let long : length items ≡ m = length-take-le m parts inside in
    ap (λ x. set l.values l.i x) (c.of.ensures ∙ ap held c.part-item.is)
    ∙ ap (λ vs. set vs l.i (held (get_or items l.i d))) l.invariant
    ∙ fill_more held items old l.i d (omega (arith, c.loop-i-test.true)) (omega (arith, c.loop-i-test.true, long, least))
    ∙ ap (λ n. map held (take n items) ++ drop n old) (sym (add-one l.i))

pub returns : goal.returns
returns g c =
    let l = c.loop-i in
    let held = g.T.Held.held in
    let old = c.args.values.now in
    let parts = c.as_chunks.result.0.now in
    let m = c.min-count.result in
    let items = take m parts in
    let inside : m ≤ length parts = omega (arith, c.min-count.ensures, min-le_left (length parts) (length old)) in
    let long : length items ≡ m = length-take-le m parts inside in
    let end : l.i ≡ m = omega (arith, c.loop-i-test.false, l.auto.i-end, long) in
    let shown : items ≡ take (length old) parts =
    ap (λ n. take n parts) (c.min-count.ensures ∙ min_comm (length parts) (length old)) ∙ take_min (length old) parts in
    let rest : drop m old ≡ drop (length parts) old = ap (λ n. drop n old) c.min-count.ensures ∙ drop_min (length parts) old in
    l.invariant
    ∙ (λ j. map held (take_all l.i items c.loop-i-test.false j) ++ drop (end j) old)
    ∙ (λ j. map held (shown j) ++ rest j)
    ∙ ap (λ (ps : List (List ℕ)). map held (take (length old) ps) ++ drop (length ps) old) c.as_chunks.ensures.front
