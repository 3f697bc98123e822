-- `mixer_frame::write_out` meets its contract: the calls' equations, one put into the next. Assumes nothing.
use Rattle.std.proofs.Common.{◌≡◌, ◌∙◌, ap, cond, arith}
use Rattle.lists.specs.Splice.{splice}
use Rattle.mix_bytes.specs.Mixes.{word_bytes, sample_bytes}
use Rattle.mixer_state.specs.State.{aux_on}
use Rattle.mixer_frame.specs.Frame.{aux_at, sent}
use Rattle.mixer_frame.proofs.write_out.Goals as goal

pub returns : goal.returns
unfolding sample_bytes
returns c =
    let a = c.args in
    let s = a.state in
    let old = a.write.now in
    let at : a.l.intermediate_samples ≡ aux_at a.l 0 = omega arith in
    let first = c.send.ensures ∙ (λ i. cond (aux_on s 0) (splice old (at i) (word_bytes (c.mix_of.ensures i))) old) in
    let write = c.send.new.write in
    let second = c.send-2.ensures ∙ (λ i. cond (aux_on s 1) (splice write (aux_at a.l 1) (word_bytes (c.mix_of-2.ensures i))) write) in
    let both = second ∙ ap (sent a.l s a.given.now 1) first in
    c.put_values.ensures ∙ (λ i. splice (both i) a.l.final_samples (sample_bytes a.frame.now))
