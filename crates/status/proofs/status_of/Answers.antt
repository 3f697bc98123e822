-- `status::status_of` meets its contract: four numbers over twelve bytes, each at its place, are the status. Assumes nothing.
use mathlib.Core.Path.{◌≡◌, refl, ap, ◌∙◌}
use mathlib.Core.Bool.{Bool, true, false}
use mathlib.Core.List.{List}
use Prim.Native.Nat.{ℕ}
use lib.ListN.{set, replicate}
use mir.Val.{bool_byte}
use Rattle.lists.specs.Splice.{splice}
use Rattle.little.specs.Little.{bytes16, dsp32_bytes}
use Rattle.status.specs.Status.{bit, status_of}
use Rattle.status.proofs.status_of.Goals as goal

-- a mark's byte, by the code and by the definition
byte_is : (mark : Bool) → bool_byte mark ≡ bit mark
byte_is true = refl
byte_is false = refl

pub returns : goal.returns
unfolding splice status_of
returns c =
    let v = c.args.v.now in
    let enabled = c.from.ensures ∙ byte_is v.enabled in
    let updated = c.from-2.ensures ∙ byte_is v.buffer_update in
    c.write16-3.ensures
    ∙ ap (λ (l : List ℕ). splice l 10 (bytes16 v.last_buffer_id))
    (c.write16-2.ensures
    ∙ ap (λ (l : List ℕ). splice l 8 (bytes16 v.current_buffer_id))
    (c.write_dsp32.ensures
    ∙ ap (λ (l : List ℕ). splice l 4 (dsp32_bytes v.position))
    (c.write16.ensures
    ∙ (λ i. splice (set (set (replicate 12 0) 0 (enabled i)) 1 (updated i)) 2
    (bytes16 v.sync_count)))))
