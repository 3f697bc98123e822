-- `mixer::tick::accept` meets its contract: each return is one case of the tests. Assumes nothing.
use Rattle.std.proofs.Common.{sym, ap, ◌∙◌, length}
use Rattle.std.proofs.lemmas.Result.{err_from_is_err_and}
use Rattle.refusals.specs.Numbers.{number}
use Rattle.mixer.proofs.Outcomes.{by_mixes, by_region, none, rooms}
use Rattle.mixer.proofs.tick.accept.Goals as goal

pub returns-in_err-mixes-clause-number : goal.returns-in_err-mixes-clause-number
returns-in_err-mixes-clause-number c =
    let a = c.args in
    let r = c.from_residual-in_err-mixes in
    let p = err_from_is_err_and r.result r.ensures.1 in
    let reason = c.in_err-mixes.ensures.err in
    rw (p.1, p.2)
    (ap number reason.0 ∙ sym (by_mixes a.first a.second a.l (length a.given.now) a.which (sym c.in_ok-accept.ensures) reason.1))

pub returns-in_err-region-clause-number : goal.returns-in_err-region-clause-number
returns-in_err-region-clause-number c =
    let a = c.args in
    let r = c.from_residual-in_err-region in
    let p = err_from_is_err_and r.result r.ensures.1 in
    let reason = c.in_err-region.ensures in
    rw (p.1, p.2)
    (ap number reason.0
    ∙ sym
    (by_region a.first a.second a.l (length a.given.now) a.which (sym c.in_ok-accept.ensures) c.in_ok-mixes.ensures.ok.1 reason.1))

pub returns-clause-number : goal.returns-clause-number
returns-clause-number c =
    let a = c.args in
    sym
    (none a.first a.second a.l (length a.given.now) a.which (sym c.in_ok-accept.ensures) c.in_ok-mixes.ensures.ok.1
    c.in_ok-region.ensures.1)

pub returns-clause-accepted : goal.returns-clause-accepted
returns-clause-accepted c =
    let a = c.args in
    let room = rooms a.first a.second a.l (length a.given.now) a.which (sym c.in_ok-accept.ensures) in record {
      first_room = room.0;
      second_room = room.1;
      whole = c.in_ok-mixes.ensures.ok.0;
      read = c.in_ok-region.ensures.0;
    }
