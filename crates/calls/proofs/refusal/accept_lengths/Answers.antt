-- `calls::refusal::accept_lengths` meets its contract: each return is one case of the tests. Assumes nothing.
use mathlib.Core.Bool.{true, false}
use mathlib.Core.Path.{◌≡◌, sym, ◌∙◌}
use native.Mathlib.Omega.{arith}
use Rattle.std.proofs.lemmas.Result.{err_from_is_err_and}
use Rattle.stems.specs.Memory.{lane_length}
use Rattle.stems.specs.Call.{wrong_voices}
use Rattle.calls.specs.Begin.{lengths_of}
use Rattle.calls.proofs.Numbers.{by_layout, by_window, by_voices, by_mixes, none}
use Rattle.calls.proofs.Numbers.{wrong_records, wrong_lanes, by_length}
use Rattle.lists.proofs.Bools.{not_no, not_yes}
use borrow.Author.Tests.{eq-eqb, ne_eqb, lt-ltb, le-ltb}
use Rattle.calls.proofs.refusal.accept_lengths.Goals as goal
use Rattle.calls.proofs.refusal.accept_lengths.Goals.{then-lent-ne-VOICES-via-then-lent-ne-VOICES}
use Rattle.calls.proofs.refusal.accept_lengths.Goals.{then-lent-ne-VOICES-via-else-lent-ne-VOICES+then-lent-lane}
use Rattle.calls.proofs.refusal.accept_lengths.Goals.{then-lent-ne-VOICES-via-else-lent-ne-VOICES+else-lent-lane+then-lane-gt-MOST_SAMPLES}

pub returns-in_err-accept : goal.returns-in_err-accept
returns-in_err-accept c =
    let a = c.args in
    let l = a.lent in
    let p = err_from_is_err_and c.from_residual.result c.from_residual.ensures.1 in
    rw (p.1, p.2)
    (by_layout a.fixed (lengths_of l.records l.region0 l.region1 l.window l.lanes) l.mixes _ c.in_err-accept.ensures)

pub returns-in_err-accept-2 : goal.returns-in_err-accept-2
returns-in_err-accept-2 c =
    let a = c.args in
    let l = a.lent in
    let r = c.from_residual-in_err-accept-2 in
    let p = err_from_is_err_and r.result r.ensures.1 in
    rw (p.1, p.2)
    (by_window a.fixed (lengths_of l.records l.region0 l.region1 l.window l.lanes) l.mixes (sym c.in_ok-accept.ensures) _
    c.in_err-accept-2.ensures)

pub returns-then-lent-ne-VOICES : goal.returns-then-lent-ne-VOICES
unfolding lane_length
returns-then-lent-ne-VOICES c =
    let a = c.args in
    let l = a.lent in
    let wrong : wrong_voices l.records l.lanes ≡ true =
    elim c.then-lent-ne-VOICES.branch [
      | then-lent-ne-VOICES-via-then-lent-ne-VOICES w ↦ wrong_records l.records l.lanes w.if-lent-ne-VOICES.true
      | then-lent-ne-VOICES-via-else-lent-ne-VOICES+then-lent-lane w ↦
          wrong_lanes l.records l.lanes w.if-lent-ne-VOICES.false (not_no (ne_eqb _ _ w.if-lent-lane.true))
      | then-lent-ne-VOICES-via-else-lent-ne-VOICES+else-lent-lane+then-lane-gt-MOST_SAMPLES w ↦
          by_length l.records l.lanes w.if-lent-ne-VOICES.false (not_yes (eq-eqb _ _ w.if-lent-lane.false))
          ∙ lt-ltb _ _ w.if-lane-gt-MOST_SAMPLES.true
    ] in
    sym
    (by_voices a.fixed (lengths_of l.records l.region0 l.region1 l.window l.lanes) l.mixes (sym c.in_ok-accept.ensures)
    (sym c.in_ok-accept-2.ensures) wrong)

pub returns-then-lent-ne-MIXES : goal.returns-then-lent-ne-MIXES
unfolding lane_length
returns-then-lent-ne-MIXES c =
    let a = c.args in
    let l = a.lent in
    let right : wrong_voices l.records l.lanes ≡ false =
    by_length l.records l.lanes c.if-lent-ne-VOICES.false (not_yes (eq-eqb _ _ c.if-lent-lane.false))
    ∙ le-ltb _ _ c.if-lane-gt-MOST_SAMPLES.false in
    sym
    (by_mixes a.fixed (lengths_of l.records l.region0 l.region1 l.window l.lanes) l.mixes (sym c.in_ok-accept.ensures)
    (sym c.in_ok-accept-2.ensures) right (λ z. omega (arith, z, c.if-lent-ne-MIXES.true)))

pub returns : goal.returns
unfolding lane_length
returns c =
    let a = c.args in
    let l = a.lent in
    let right : wrong_voices l.records l.lanes ≡ false =
    by_length l.records l.lanes c.if-lent-ne-VOICES.false (not_yes (eq-eqb _ _ c.if-lent-lane.false))
    ∙ le-ltb _ _ c.if-lane-gt-MOST_SAMPLES.false in
    sym
    (none a.fixed (lengths_of l.records l.region0 l.region1 l.window l.lanes) l.mixes (sym c.in_ok-accept.ensures)
    (sym c.in_ok-accept-2.ensures) right (omega (arith, c.if-lent-ne-MIXES.false)))
