-- `config::parse::last_steps` meets its contract: no more is left of an entry than its length at every step. Assumes nothing.
use mathlib.Core.Path.{sym, ap, ◌∙◌, subst}
use Prim.Native.Nat.{◌≤◌}
use native.Mathlib.Nat.{le_refl}
use Rattle.voice.specs.declared.record.Voice.{Voice}
use Rattle.settings.specs.Steps.{stereo_step}
use Rattle.config.proofs.Room.{Room, format_room, stereo_room}
use Rattle.config.proofs.parse.last_steps.Goals as goal

pub lengthen_step-requires : goal.lengthen_step-requires
lengthen_step-requires c =
    let bytes = c.args.bytes.now in
    let v = c.args.v in
    let here : Room v.queued v = record { fits = c.requires; queue = le_refl v.queued } in
    let there = stereo_room bytes v.queued _ (format_room bytes v.queued v here) in
    subst (λ (w : Voice). w.remaining ≤ w.length)
    (sym (c.stereo_step-v.ensures ∙ ap (stereo_step bytes) c.format_step-v.ensures)) there.fits
