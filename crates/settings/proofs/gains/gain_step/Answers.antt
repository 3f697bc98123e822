-- `settings::gains::gain_step` meets its contract: what is copied over a part is the splice. Assumes nothing.
use Rattle.std.proofs.Common.{refl, ◌≡◌, ℕ, ◌*◌, true, length, sym, ap, ◌∙◌, set, arith, rules}
use Rattle.lists.proofs.Bools.{cond_yes}
use Rattle.lists.specs.Splice.{part}
use Rattle.lists.proofs.Splice.{called_is_splice, lent_is, length_part}
use Rattle.voice.specs.Set.{set_voice_gain, set_voice_has_ramp, set_voice_ramp}
use Rattle.settings.specs.Dirty.{flag}
use Rattle.settings.specs.Steps.{gain_step}
use Rattle.settings.proofs.gains.gain_step.Goals as goal

pub returns-then-flag : goal.returns-then-flag
unfolding gain_step
returns-then-flag c =
    let v = c.args.v in
    let at = c.args.mix * 4 in
    let gains_long : length c.args.v.gain ≡ 12 = search rules in
    let ramps_long : length c.args.v.ramp ≡ 12 = search rules in
    let ramps = called_is_splice v.ramp _ (part at 4 v.gain) at 4 (omega arith) (c.copy_from_slice.ensures.after ∙ lent_is at 4 v.gain)
    (length_part at 4 v.gain (omega arith)) in
    let gains = called_is_splice v.gain _ _ at 4 (omega arith) (c.copy_from_slice-then-flag.ensures.after ∙ c.gains_in.ensures) refl in
    (λ j. set_voice_has_ramp (set v.has_ramp c.args.mix true) (set_voice_ramp (ramps j) (set_voice_gain (gains j) v)))
    ∙ sym (cond_yes _ _ (ap (λ (n : ℕ). flag c.args.bytes.now n) (sym c.bit_of.ensures.bit) ∙ sym c.flag.ensures ∙ c.if-flag.true))
