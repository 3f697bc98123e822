-- What a ready player's source gives, stored step by step, is what the player lays into the frame. Assumes nothing.
use Rattle.std.proofs.Common.{◌≡◌, ℕ, suc, ◌-◌, ◌<◌, List, ap, ◌∙◌, arith}
use lib.IntN.{ℤ}
use Rattle.steps.specs.declared.stretch.Reached.{Reached}
use Rattle.steps.specs.Stretch.{after, Stretched}
use Rattle.stretches.specs.Onward.{PlaysOn}
use Rattle.stretches.specs.Stored.{stored, sound_after}
use Rattle.stretches.specs.declared.source.Ready.{Ready}
use Rattle.stretches.proofs.Storing.{stored_laid}
use Rattle.stretches.proofs.Ready.{ready_sound}

pub plays_on : (ready : Ready) (output : ℕ) (before frame : List ℤ) (r : Reached)
    → Stretched ready.player.track.rate ready.player.cursor (160 - output) r
    → frame
    ≡ stored (sound_after ready.source.lane.now ready.source.bytes.now ready.source.played ready.player.track ready.player.cursor) output
    r.count before
    → PlaysOn ready.player output before frame r
plays_on ready output before frame r far is =
    let p = ready.player in
    let s = ready.source in
    let long : 1 < p.track.length = omega (arith, ready.two_left, p.remains) in record {
      onward = record {
        count_most = far.count_most;
        cursor_is = far.cursor_is;
        inside = λ j h. omega (arith, far.inside (suc j) (omega arith));
      };
      frame_after = is
          ∙ ap (λ (lane : List ℤ). stored (sound_after lane s.bytes.now s.played p.track p.cursor) output r.count before) ready.same_lane
          ∙ stored_laid (sound_after p.lane.now s.bytes.now s.played p.track p.cursor) output before p.window.bytes.now p.window.base
          p.lane.now p.track p.cursor r.count
          (λ i l. ready_sound p.window.bytes.now p.window.base p.lane.now p.track s.bytes.now s.played p.in_lane ready.at_hand
          (after p.track.rate i p.cursor) (far.inside i (omega arith)) long);
    }
