-- `voices::tick` meets its contract on each of its three ways: refused by its lengths, refused for a record, and served. Assumes nothing.
use Rattle.std.proofs.Common.{sym}
use Rattle.turns.proofs.Begun.{room, all_voices_lem, fitting}
use Rattle.voices.proofs.Contract.{refused_call, malformed_call, goes_on, served_call}
use Rattle.voices.proofs.tick.Goals as goal

pub returns-in_err-accept_lent : goal.returns-in_err-accept_lent
returns-in_err-accept_lent c =
    let a = c.args in
    refused_call a.fixed a.region0.now a.region1.now a.window.now a.voices.now a.lanes.now a.mixes.now _
    c.in_err-accept_lent.ensures c.from_residual.result c.from_residual.ensures.1

pub returns-in_err-accept_records : goal.returns-in_err-accept_records
returns-in_err-accept_records c =
    let a = c.args in
    let r = c.from_residual-in_err-accept_records in
    malformed_call a.fixed a.region0.now a.region1.now a.window.now a.voices.now a.lanes.now a.mixes.now _
    (sym c.in_ok-accept_lent.ensures) c.in_err-accept_records.ensures r.result r.ensures.1

pub unwrap-mixes-requires : goal.unwrap-mixes-requires
unwrap-mixes-requires c =
    let a = c.args in
    c.as_mut_array.ensures.variant.1
    (room a.fixed a.region0.now a.region1.now a.window.now a.voices.now a.lanes.now a.mixes.now (sym c.in_ok-accept_lent.ensures)).1

pub serve_all-requires-clause-lent : goal.serve_all-requires-clause-lent
serve_all-requires-clause-lent c =
    let a = c.args in
    all_voices_lem a.fixed a.region0.now a.region1.now a.window.now a.voices.now a.lanes.now a.mixes.now
    (sym c.in_ok-accept_lent.ensures)

pub serve_all-requires-clause-formed : goal.serve_all-requires-clause-formed
serve_all-requires-clause-formed c =
    let a = c.args in
    goes_on a.fixed a.region0.now a.region1.now a.window.now a.voices.now a.lanes.now a.mixes.now
    (sym c.in_ok-accept_lent.ensures) (sym c.in_ok-accept_records.ensures)

pub serve_all-requires-clause-fitting : goal.serve_all-requires-clause-fitting
serve_all-requires-clause-fitting c =
    let a = c.args in
    fitting a.fixed a.region0.now a.region1.now a.window.now a.voices.now a.lanes.now a.mixes.now
    (sym c.in_ok-accept_lent.ensures)

pub returns : goal.returns
returns c =
    let a = c.args in
    let s = c.serve_all in
    let e = s.ensures in
    served_call a.fixed a.region0.now a.region1.now a.window.now a.voices.now a.lanes.now a.mixes.now
    (sym c.in_ok-accept_lent.ensures) (sym c.in_ok-accept_records.ensures) e.long
    s.result s.new.voices s.new.region0 s.new.region1 s.new.lanes s.new.mixes
    e.refused e.voices e.region0 e.region1 e.lanes e.mixes
