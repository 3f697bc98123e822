-- `mixer::tick::tick` meets its contract: a served call is served with the regions in the order of their use, and they come back so; a
-- refused one leaves both. Assumes nothing.
use Rattle.std.proofs.Common.{ℕ, List, sym, ap, ◌∙◌, subst, Err}
use Rattle.refusals.proofs.Numbers.{ok_exactly}
use Rattle.region.specs.Choice.{number_of_region}
use Rattle.mixer.specs.Tick.{Mixed, Outcome, GivesBack, refusal}
use Rattle.mixer.proofs.Outcomes.{served_is, refused_is}
use Rattle.mixer.proofs.tick.tick.Goals as goal

-- the three parts of an outcome
abbrev answer : Outcome → Mixed
answer o = o.answer

abbrev first : Outcome → List ℕ
first o = o.first

abbrev second : Outcome → List ℕ
second o = o.second

pub returns-in-Ok-default-Zero : goal.returns-in-Ok-default-Zero
returns-in-Ok-default-Zero c =
    let a = c.args in
    let ok = c.in-Ok-default-Zero in
    let known = ok.ensures.accepted in
    let zero = sym known.read ∙ ap number_of_region ok.field-0-1-is in
    let is = served_is a.l a.m ok.mixes.now a.given.now a.which a.first.now a.second.now 0 ok.ensures.number zero known.whole in record {
      answer = subst (GivesBack c.mix.result) (ap answer is) c.mix.ensures.answer;
      first_region = c.mix.ensures.read ∙ ap first is;
      second_region = c.mix.ensures.written ∙ ap second is;
    }

pub returns-in-Ok-default-One : goal.returns-in-Ok-default-One
returns-in-Ok-default-One c =
    let a = c.args in
    let ok = c.in-Ok-default-One in
    let known = ok.ensures.accepted in
    let one = sym known.read ∙ ap number_of_region ok.field-0-1-is in
    let is = served_is a.l a.m ok.mixes.now a.given.now a.which a.first.now a.second.now 1 ok.ensures.number one known.whole in
    let mix = c.mix-in-Ok-default-One in record {
      answer = subst (GivesBack mix.result) (ap answer is) mix.ensures.answer;
      first_region = mix.ensures.written ∙ ap first is;
      second_region = mix.ensures.read ∙ ap second is;
    }

pub returns-in-Err : goal.returns-in-Err
returns-in-Err c =
    let a = c.args in
    let e = c.in-Err.ensures.number in
    let is =
    sym
    (refused_is a.l a.m a.given.now a.which a.first.now a.second.now
    (λ z. let ok = (ok_exactly {A = Unit {0}} (Err c.in-Err.reason)).0 (e ∙ z) in cc)) in record {
      answer = subst (GivesBack c.refuse.result) (ap (refusal a.m) e ∙ ap answer is) c.refuse.ensures;
      first_region = ap first is;
      second_region = ap second is;
    }
