-- The records served one after the other, that of voice 0 first, as the loop goes. Inner definitions: what the call does names no order
-- (specs/Tick). Assumes nothing: these are definitions.
use Rattle.std.specs.Prelude.{ℕ, zero, suc, ◌<◌, Bool, List, ℤ, length, get_or}
use Rattle.voice.specs.Blank.{default_voice}
use Rattle.voice.specs.Malformed.{WellFormed}
use Rattle.voice.specs.declared.record.Voice.{Voice}
use Rattle.stems.specs.declared.Fixed.{Fixed}
use Rattle.turns.specs.Turns.{State, beginning, serve_one}

-- the first i voices have had theirs, where region 1 is read or not
abbrev pub served_to : Fixed → List ℕ → Bool → ℕ → State → State
served_to fx w second zero s = s
served_to fx w second (suc i) s = serve_one fx w second i (served_to fx w second i s)

-- from the beginning of the call on
abbrev pub ticked : Fixed → List ℕ → Bool → ℕ → List Voice → List ℕ → List ℕ → List ℤ → State
ticked fx w second i voices region0 region1 lanes = served_to fx w second i (beginning voices region0 region1 lanes)

-- each record is well-formed for lanes of L samples
abbrev pub AllFormed : ℕ → List Voice → Type 0
AllFormed L voices = (j : ℕ) → j < length voices → WellFormed L (get_or voices j default_voice)
