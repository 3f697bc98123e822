-- `mix_voice::fade::all_silent` meets its contract: each channel passes the test. Assumes nothing.
use mathlib.Core.Path.{refl}
use borrow.Author.Rules.{rules}
use borrow.Author.Tests.{tests}
use Rattle.std.proofs.lemmas.Iterator.{YieldsList-from_range}
use Rattle.std.proofs.lemmas.Iterator.Search.{all_from_yields_List}
use Rattle.mix_voice.specs.Mixed.{unheard_at}
use Rattle.mix_voice.proofs.fade.all_silent.Goals as goal

pub returns : goal.returns
returns c =
    all_from_yields_List (unheard_at c.args.marks c.args.ramp.now c.args.gains.now) _ _ _ c.all.ensures.ran
    (YieldsList-from_range 0 12 12 (cc) refl) (λ x b q k. search (rules, tests))
