-- `downmix::downmix` meets its contract: a volume of 0.0 leaves the frame as it is. Assumes nothing.
use mathlib.Core.Path.{◌≡◌, sym, ap, ◌∙◌, subst}
use Prim.Native.Nat.{ℕ, ◌<◌}
use lib.Ieee.{Float, nan, eq}
use lib.ListN.{length, get_or}
use Rattle.lists.proofs.Walk.{get_d_any}
use Rattle.numbers.specs.Literals.{+0}
use Rattle.numbers.proofs.Literals.{zero_32}
use Rattle.mixer_state.specs.State.{volume_of}
use borrow.Author.Rules.{rules}
use Rattle.downmix.proofs.Silent.{silent}
use Rattle.downmix.proofs.downmix.Goals as goal

volumes : (c : goal.After-ranged-then-volume) → length c.args.state.volume ≡ 3
volumes c = search rules

-- the volume that the code reads
loud : (c : goal.After-ranged-then-volume) → get_or c.args.state.volume c.args.k nan ≡ volume_of c.args.state c.args.k
loud c = get_d_any c.args.state.volume c.args.k nan +0 (subst (λ (n : ℕ). c.args.k < n) (sym (volumes c)) c.requires)

pub returns-then-volume : goal.returns-then-volume
returns-then-volume c =
    let a = c.args in
    let zero = ap (eq (get_or a.state.volume a.k nan)) (sym zero_32) ∙ c.if-volume.true in
    let quiet = sym (ap (λ (v : Float). eq v +0) (loud c)) ∙ zero in
    silent a.state.output (volume_of a.state a.k) a.mix.now a.frame.now quiet c.told-frame c.ranged.ensures
    c.ranged-then-volume.ensures
