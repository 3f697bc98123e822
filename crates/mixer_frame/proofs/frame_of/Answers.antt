-- `mixer_frame::frame_of` meets its contract: the calls' equations, one put into the next. Assumes nothing.
use Rattle.std.proofs.Common.{ap, ◌∙◌}
use Rattle.downmix.specs.Downmix.{downmixed}
use Rattle.mixer_frame.specs.Frame.{silence, with}
use Rattle.mixer_frame.proofs.frame_of.Goals as goal

pub returns : goal.returns
returns c =
    let a = c.args in
    let step = with a.l a.state a.read.now a.given.now in
    let one = c.downmix.ensures ∙ (λ i. downmixed a.state 0 (c.mix_of.ensures i) silence) in
    let two = c.add_heard.ensures ∙ ap (step 1) one in
    c.add_heard-2.ensures ∙ ap (step 2) two
