-- What only the contracts of inner functions cite: a frame into which samples are stored one after the other, while an entry plays on.
-- Assumes nothing: these are definitions.
use Rattle.std.specs.Prelude.{List, ◌⊎◌, ◌≡◌, ℕ, zero, suc, ◌+◌, ◌*◌, ◌≤◌, ◌<◌, ℤ, set}
use Rattle.steps.specs.declared.step.Cursor.{Cursor}
use Rattle.steps.specs.declared.stretch.Reached.{Reached}
use Rattle.steps.specs.Stretch.{after}
use Rattle.samples.specs.declared.Sample.{Sample}
use Rattle.track.specs.declared.Track.{Track}
use Rattle.track.specs.Track.{sound_of}

-- a frame with a sample at a place
unfoldable pub put : List ℤ → ℕ → Sample → List ℤ
put frame k s = set (set frame (k * 2) s.left) (k * 2 + 1) s.right

module _ (window : List ℕ) (base : ℕ) (lane : List ℤ) (t : Track) where
  -- a frame with n samples from `output` on, which an entry gives from a cursor on
  unfoldable pub laid : Cursor → ℕ → ℕ → List ℤ → List ℤ
  laid c output zero frame = frame
  laid c output (suc n) frame = put (laid c output n frame) (output + n) (sound_of window base lane t (after t.rate n c))

-- How far a stretch of an entry came: no further than there is room, and not to the entry's end.
pub record Onward (t : Track) (c : Cursor) (room : ℕ) (r : Reached) : Type 0 where
  pub count_most : r.count ≤ room
  pub cursor_is : r.cursor ≡ after t.rate r.count c
  pub inside : (j : ℕ) → j < r.count → 0 < (after t.rate (suc j) c).remaining

-- How far an entry was played: at least one sample, and on until there is no room or nothing remains.
pub record Turned (t : Track) (c : Cursor) (room : ℕ) (r : Reached) : Type 0 where
  pub some : 0 < r.count
  pub count_most : r.count ≤ room
  pub cursor_is : r.cursor ≡ after t.rate r.count c
  pub inside : (j : ℕ) → suc j < r.count → 0 < (after t.rate (suc j) c).remaining
  pub ended : (r.count ≡ room) ⊎ (r.cursor.remaining ≡ 0)
