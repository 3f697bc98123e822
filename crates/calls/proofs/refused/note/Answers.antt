-- `calls::refused::note` meets its contract: nothing is listed of a voice that was not refused, and one that was is listed behind the
-- others. Assumes nothing.
use Rattle.std.proofs.Common.{ap, sym, ◌∙◌}
use mathlib.Core.List.{map-append}
use Rattle.refusals.specs.Numbers.{number_of}
use Rattle.calls.specs.Refused.{refusal, refusals_of, refused_after}
use Rattle.calls.proofs.Noted.{noted_none, noted_one}
use Rattle.calls.proofs.refused.note.Goals as goal

pub returns-in-Err-clause-items : goal.returns-in-Err-clause-items
returns-in-Err-clause-items c =
    let a = c.args in
    let so_far = refusals_of a.refused.now.items in
    ap refusals_of c.push.ensures ∙ map-append refusal a.refused.now.items _ ∙ noted_one a.voice.number c.in-Err.refusal so_far
    ∙ ap (λ r. refused_after a.voice.number (number_of r) so_far) (sym c.in-Err.is)

pub returns-in_default-clause-items : goal.returns-in_default-clause-items
returns-in_default-clause-items c =
    let a = c.args in
    let so_far = refusals_of a.refused.now.items in
    noted_none a.voice.number so_far ∙ ap (λ r. refused_after a.voice.number (number_of r) so_far) (sym c.in_default.is)
