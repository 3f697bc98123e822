-- What a contract sees of the list of refused voices, and the places in which it lies. Assumes nothing: these are definitions.
use Rattle.std.specs.Prelude.{◌-◌, List, ◌++◌, length, replicate}
use Rattle.refusals.specs.declared.Refusal.TheVariants.{QueueFull}
use Rattle.stems.specs.Memory.{VOICES}
use Rattle.calls.specs.declared.refused.RefusedVoice.{RefusedVoice}

-- the refused voices, in their order
pub record Items : Type 0 where
  pub items : List RefusedVoice

-- what stands in a place that holds no voice
abbrev pub nobody : RefusedVoice
nobody = record { voice = 0; refusal = QueueFull }

-- voices in 24 places, nobody behind them
abbrev pub padded : List RefusedVoice → List RefusedVoice
padded vs = vs ++ replicate (VOICES - length vs) nobody
