-- What a stretch of an entry comes to. Only the contracts of quick functions cite this. Assumes nothing: it is a definition.
use Rattle.std.specs.Prelude.{List, ◌≡◌, ℕ, ◌-◌, ℤ}
use Rattle.numbers.specs.Sizes.{FRAME_SAMPLES}
use Rattle.steps.specs.declared.stretch.Reached.{Reached}
use Rattle.track.specs.declared.player.Player.{Player}
use Rattle.track.specs.Laid.{laid, Onward}

-- how far it came in the room that a frame has from `output` on, and the frame with the samples that a player gives on the way
pub record PlaysOn (p : Player) (output : ℕ) (before after : List ℤ) (r : Reached) : Type 0 where
  pub onward : Onward p.track p.cursor (FRAME_SAMPLES - output) r
  pub frame_after : after ≡ laid p.window.bytes.now p.window.base p.lane.now p.track p.cursor output r.count before
