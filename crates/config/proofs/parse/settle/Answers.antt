-- `config::parse::settle` meets its contract: the three runs of steps, one put into the next. Assumes nothing.
use mathlib.Core.Path.{sym, ap, ◌∙◌, subst}
use Prim.Native.Nat.{◌≤◌}
use native.Mathlib.Nat.{le_refl}
use Rattle.voice.specs.declared.record.Voice.{Voice}
use Rattle.config.specs.Parsed.{in_turn, sound_steps, last_steps, settled}
use Rattle.config.proofs.Room.{Room, sound_room}
use Rattle.config.proofs.parse.settle.Goals as goal

pub last_steps-requires : goal.last_steps-requires
last_steps-requires c =
    let bytes = c.args.bytes.now in
    let cs = c.args.coefficients.now in
    let v = c.args.v in
    let here : Room v.queued v = record { fits = c.requires; queue = le_refl v.queued } in
    subst (λ (w : Voice). w.remaining ≤ w.length)
    (sym (c.sound_steps-v.ensures ∙ ap (in_turn (sound_steps bytes cs)) c.play_steps-v.ensures))
    (sound_room bytes v.queued cs v here).fits

pub returns : goal.returns
unfolding settled
returns c =
    let bytes = c.args.bytes.now in
    let cs = c.args.coefficients.now in
    c.last_steps.ensures
    ∙ ap (in_turn (last_steps bytes)) (c.sound_steps-v.ensures ∙ ap (in_turn (sound_steps bytes cs)) c.play_steps-v.ensures)
