-- The mixer's state: "three volumes, two aux switches and the output kind". Assumes nothing: these are definitions.
use Rattle.std.specs.Prelude.{ℕ, Bool, false, [], ◌∷◌, Float, get_or}
use Rattle.numbers.specs.Literals.{+0}
use Rattle.mixer_state.specs.declared.Mixer.{Mixer}
use Rattle.mixer_state.specs.declared.Output.TheVariants.{Stereo}

-- the state before any title has set it, the source's default: nothing is heard, no aux bus is on, the output is stereo
abbrev pub default_mixer : Mixer
default_mixer = record { volume = +0 ∷ +0 ∷ +0 ∷ []; aux = false ∷ false ∷ []; output = Stereo }

-- the volume of mix k: of 0 the master volume, of 1 and 2 the volumes at which the aux buses return
abbrev pub volume_of : Mixer → ℕ → Float
volume_of m k = get_or m.volume k +0

-- aux bus k is on
abbrev pub aux_on : Mixer → ℕ → Bool
aux_on m k = get_or m.aux k false
