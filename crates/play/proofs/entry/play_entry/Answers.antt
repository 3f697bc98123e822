-- `play::entry::play_entry` meets its contract: a turn after a stretch is a turn. Assumes nothing.
use Rattle.std.proofs.Common.{◌≡◌, ℕ, ◌+◌, ◌-◌, ◌≤◌, ap, ◌∙◌, subst, arith}
use Rattle.steps.specs.declared.step.Cursor.{Cursor}
use Rattle.steps.proofs.Compose.{after_less}
use Rattle.track.specs.Laid.{laid, Turned}
use Rattle.track.proofs.Onward.{turned_add, laid_add}
use Rattle.play.proofs.entry.play_entry.Goals as goal

pub invariant_of-rest : goal.invariant_of-rest
invariant_of-rest c =
    let p = c.args.player in
    let quick = c.play_on-quick.result in
    let there = ap (λ (x : Cursor). x.remaining) c.play_on-quick.ensures.onward.cursor_is in
    let less : quick.cursor.remaining ≤ p.track.length =
    omega (arith, there, after_less p.track.rate quick.count p.cursor, p.remains) in
    record { remains = less; in_lane = p.in_lane }

pub returns : goal.returns
returns c =
    let p = c.args.player in
    let output = c.args.output in
    let quick = c.play_on-quick.result in
    let n = quick.count in
    let plain = c.play_plain-plain.result in
    let far = c.play_on-quick.ensures.onward in
    let room : 160 - (output + n) ≡ 160 - output - n = omega arith in record {
      turned = turned_add p.track p.cursor (160 - output) n quick.cursor plain far
          (subst (λ (k : ℕ). Turned p.track quick.cursor k plain) room c.play_plain-plain.ensures.turned);
      frame_after = c.play_plain-plain.ensures.frame_after
          ∙ (λ i. laid p.window.bytes.now p.window.base p.lane.now p.track (far.cursor_is i) (output + n) plain.count
          (c.play_on-quick.ensures.frame_after i))
          ∙ laid_add p.window.bytes.now p.window.base p.lane.now p.track p.cursor output n plain.count c.args.frame.now;
    }
