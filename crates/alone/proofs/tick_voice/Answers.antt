-- `alone::tick_voice` meets its contract on each of its three ways: refused by its lengths, refused for a record or for its voice's number,
-- and served. Assumes nothing.
use Rattle.std.proofs.Common.{sym}
use Rattle.turns.proofs.Begun.{room, fitting}
use Rattle.alone.proofs.Contract.{refused_call, late_call, lent_too, formed, served_call}
use Rattle.alone.proofs.tick_voice.Goals as goal

pub returns-in_err-accept_lent : goal.returns-in_err-accept_lent
returns-in_err-accept_lent c =
    let a = c.args in
    refused_call a.fixed a.voice a.region0.now a.region1.now a.window.now a.voices.now a.lanes.now a.mixes.now _
    c.in_err-accept_lent.ensures c.from_residual.result c.from_residual.ensures.1

pub returns-in_err-accept_alone : goal.returns-in_err-accept_alone
returns-in_err-accept_alone c =
    let a = c.args in
    let r = c.from_residual-in_err-accept_alone in
    late_call a.fixed a.voice a.region0.now a.region1.now a.window.now a.voices.now a.lanes.now a.mixes.now _
    (sym c.in_ok-accept_lent.ensures) c.in_err-accept_alone.ensures r.result r.ensures.1

pub unwrap-mixes-requires : goal.unwrap-mixes-requires
unwrap-mixes-requires c =
    let a = c.args in
    c.as_mut_array.ensures.variant.1
    (room a.fixed a.region0.now a.region1.now a.window.now a.voices.now a.lanes.now a.mixes.now (sym c.in_ok-accept_lent.ensures)).1

pub serve_alone-requires : goal.serve_alone-requires
serve_alone-requires c =
    let a = c.args in
    let code = sym c.in_ok-accept_lent.ensures in
    let late = sym c.in_ok-accept_alone.ensures in record {
      lent = lent_too a.fixed a.voice a.region0.now a.region1.now a.window.now a.voices.now a.lanes.now a.mixes.now code late;
      well_formed = formed a.fixed a.voice a.region0.now a.region1.now a.window.now a.voices.now a.lanes.now a.mixes.now code late;
      fitting = fitting a.fixed a.region0.now a.region1.now a.window.now a.voices.now a.lanes.now a.mixes.now code;
    }

pub returns : goal.returns
returns c =
    let a = c.args in
    let s = c.serve_alone in
    let e = s.ensures in
    served_call a.fixed a.voice a.region0.now a.region1.now a.window.now a.voices.now a.lanes.now a.mixes.now
    (sym c.in_ok-accept_lent.ensures) (sym c.in_ok-accept_alone.ensures)
    s.result s.new.voices s.new.region0 s.new.region1 s.new.lanes s.new.mixes
    e.refused e.voices e.region0 e.region1 e.lanes e.mixes
