-- `play::entry::play_plain` meets its contract: one sample more, after which something remains or nothing does. Assumes nothing.
use Rattle.std.proofs.Common.{◌≡◌, ℕ, ◌+◌, ◌-◌, ◌<◌, List, sym, ap, ◌∙◌, subst, arith}
use mathlib.Core.Logic.{inr}
use lib.IntN.{ℤ}
use Rattle.samples.specs.declared.Sample.{Sample}
use Rattle.steps.specs.Step.{moved}
use Rattle.steps.specs.Stretch.{after as steps_on}
use Rattle.steps.specs.declared.step.Cursor.{Cursor}
use Rattle.steps.proofs.Compose.{moved_less}
use Rattle.track.specs.declared.Track.{Track}
use Rattle.track.specs.Track.{sound_of}
use Rattle.track.specs.Laid.{put, laid, Onward, Turned}
use Rattle.track.proofs.Onward.{onward_none, onward_more, turned_last, laid_none, laid_more}
use Rattle.play.proofs.entry.play_plain.Goals as goal

-- what is stored
stored : (window : List ℕ) (base : ℕ) (lane : List ℤ) (t : Track) (c : Cursor) (output n : ℕ) (frame before after : List ℤ) (here : Cursor)
    (s : Sample)
    → before ≡ laid window base lane t c output n frame → here ≡ steps_on t.rate n c → s ≡ sound_of window base lane t here
    → after ≡ put before (output + n) s
    → after ≡ laid window base lane t c output (n + 1) frame
stored window base lane t c output n frame before after here s b h e a =
    let sample = e ∙ ap (sound_of window base lane t) h in
    a ∙ (λ i. put (b i) (output + n) (sample i)) ∙ sym (laid_more window base lane t c output n frame)

pub loop-n-init : goal.loop-n-init
loop-n-init c =
    let p = c.args.player in record {
      far = onward_none p.track p.cursor (160 - c.args.output);
      laid_in = sym (laid_none p.window.bytes.now p.window.base p.lane.now p.track p.cursor c.args.output c.args.frame.now);
      remains = p.remains;
    }

pub returns-then-cursor-eq0-clause-turned : goal.returns-then-cursor-eq0-clause-turned
returns-then-cursor-eq0-clause-turned c =
    let p = c.args.player in
    let room = 160 - c.args.output in
    let n = c.loop-n.n in
    let none = sym (ap (λ (x : Cursor). x.remaining) c.step-cursor.ensures) ∙ c.if-cursor-eq0.true in
    subst (λ (x : Cursor). Turned p.track p.cursor room (record { cursor = x; count = n + 1 })) (sym c.step-cursor.ensures)
    (turned_last p.track p.cursor room n c.loop-n.cursor c.loop-n.invariant.far (omega arith) (inr none))

pub returns-then-cursor-eq0-clause-frame_after : goal.returns-then-cursor-eq0-clause-frame_after
returns-then-cursor-eq0-clause-frame_after c =
    let p = c.args.player in
    stored p.window.bytes.now p.window.base p.lane.now p.track p.cursor c.args.output c.loop-n.n c.args.frame.now _ _ _ _
    c.loop-n.invariant.laid_in c.loop-n.invariant.far.cursor_is c.sound.ensures c.put.ensures

pub loop-n-preserved : goal.loop-n-preserved
loop-n-preserved c =
    let p = c.args.player in
    let room = 160 - c.args.output in
    let n = c.loop-n.n in
    let step = ap (λ (x : Cursor). x.remaining) c.step-cursor.ensures in
    let some : 0 < (moved p.track.rate c.loop-n.cursor).remaining = omega (arith, step, c.if-cursor-eq0.false) in record {
      far =
          subst (λ (x : Cursor). Onward p.track p.cursor room (record { cursor = x; count = n + 1 })) (sym c.step-cursor.ensures)
          (onward_more p.track p.cursor room n c.loop-n.cursor c.loop-n.invariant.far (omega arith) some);
      laid_in =
          stored p.window.bytes.now p.window.base p.lane.now p.track p.cursor c.args.output n c.args.frame.now _ _ _ _
          c.loop-n.invariant.laid_in c.loop-n.invariant.far.cursor_is c.sound.ensures c.put.ensures;
      remains = omega (arith, step, moved_less p.track.rate c.loop-n.cursor, c.loop-n.invariant.remains);
    }
