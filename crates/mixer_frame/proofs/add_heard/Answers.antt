-- `mixer_frame::add_heard` meets its contract: the mix that is added is the one that the contract says. Assumes nothing.
use Rattle.std.proofs.Common.{List, ℤ, ◌+◌, ap, sym, ◌∙◌}
use Rattle.lists.specs.Splice.{part}
use Rattle.lists.proofs.Bools.{cond_yes, cond_no}
use Rattle.mix_bytes.specs.Sizes.{aux_bytes}
use Rattle.mix_bytes.specs.Mixes.{words_in}
use Rattle.downmix.specs.Downmix.{downmixed}
use Rattle.mixer_frame.specs.Frame.{aux_at, mix_of}
use Rattle.mixer_frame.proofs.add_heard.Goals as goal

pub returns-then-state-bus : goal.returns-then-state-bus
returns-then-state-bus c =
    let a = c.args in
    let bytes = part (aux_at a.l a.bus) aux_bytes a.read.now in
    let is =
    c.read_mix.ensures ∙ ap words_in c.part_at-returned.ensures
    ∙ sym (cond_yes (words_in bytes) (mix_of (a.bus + 1) a.given.now) c.if-state-bus.true) in
    c.downmix.ensures ∙ ap (λ (mix : List ℤ). downmixed a.state (a.bus + 1) mix a.frame.now) is

pub returns-else-state-bus : goal.returns-else-state-bus
returns-else-state-bus c =
    let a = c.args in
    let bytes = part (aux_at a.l a.bus) aux_bytes a.read.now in
    let is = c.mix_of-mix.ensures ∙ sym (cond_no (words_in bytes) (mix_of (a.bus + 1) a.given.now) c.if-state-bus.false) in
    c.downmix-else-state-bus.ensures ∙ ap (λ (mix : List ℤ). downmixed a.state (a.bus + 1) mix a.frame.now) is
