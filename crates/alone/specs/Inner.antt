-- The turn of one voice alone. Inner definition: what the call does does not name it (specs/TickVoice). Assumes nothing: this is a
-- definition.
use Rattle.std.specs.Prelude.{ℕ, Bool, List, ℤ}
use Rattle.voice.specs.declared.record.Voice.{Voice}
use Rattle.stems.specs.declared.Fixed.{Fixed}
use Rattle.turns.specs.Turns.{State, beginning, serve_one}

-- from the beginning of the call on
abbrev pub ticked : Fixed → List ℕ → Bool → ℕ → List Voice → List ℕ → List ℕ → List ℤ → State
ticked fx w second v voices region0 region1 lanes = serve_one fx w second v (beginning voices region0 region1 lanes)
