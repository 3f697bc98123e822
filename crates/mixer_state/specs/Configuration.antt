-- The mixer's configuration: what its 44 bytes say of the state. Assumes nothing: these are definitions.
use Rattle.std.specs.Prelude.{ℕ, ◌+◌, Bool, not, cond, List, [], ◌∷◌, eqb, Float, replicate}
use Rattle.numbers.specs.Bits.{gain}
use Rattle.little.specs.Little.{at16, at32}
use Rattle.lists.specs.Splice.{splice}
use Rattle.fields.specs.Flags.{flagged}
use Rattle.fields.specs.Fields.{offset_of, mixer_configuration}
use Rattle.mixer_state.specs.State.{volume_of, aux_on}
use Rattle.mixer_state.specs.declared.Mixer.{Mixer}
use Rattle.mixer_state.specs.declared.Output.{Output}
use Rattle.mixer_state.specs.declared.Output.TheVariants.{Mono, Stereo}

-- "mixer configuration 44" bytes
abbrev pub configuration_bytes : ℕ
configuration_bytes = 44

-- the dirty word, which says what the title changed
abbrev pub dirty_in : List ℕ → ℕ
dirty_in bytes = at32 bytes (offset_of mixer_configuration "DIRTY")

-- an output word of 0 is mono; surround comes out as stereo
abbrev pub output_of : List ℕ → Output
output_of bytes = cond (eqb (at16 bytes (offset_of mixer_configuration "OUTPUT_FORMAT")) 0) Mono Stereo

module _ (bytes : List ℕ) (m : Mixer) where
  -- volume k, read at a place where its bit of the dirty word is set, else kept; as of a gain, one that is not finite is 0.0
  abbrev volume_by : ℕ → ℕ → ℕ → Float
  volume_by k bit at = cond (flagged (dirty_in bytes) bit) (gain (at32 bytes at)) (volume_of m k)

  -- the switch of aux bus k likewise: any word but 0 is on
  abbrev aux_by : ℕ → ℕ → ℕ → Bool
  aux_by k bit at = cond (flagged (dirty_in bytes) bit) (not (eqb (at16 bytes at) 0)) (aux_on m k)

  -- the state that the bytes leave: as with a voice's, "A zero dirty word does nothing"; at any other each field whose bit is set is read
  unfoldable pub configured : Mixer
  configured =
      cond (eqb (dirty_in bytes) 0) m
      (record {
        volume =
            volume_by 0 0x1_0000 (offset_of mixer_configuration "MASTER_VOLUME")
            ∷ volume_by 1 0x100_0000 (offset_of mixer_configuration "AUX_RETURN_VOLUME")
            ∷ volume_by 2 0x200_0000 (offset_of mixer_configuration "AUX_RETURN_VOLUME" + 4)
            ∷ [];
        aux =
            aux_by 0 0x100 (offset_of mixer_configuration "AUX_BUS_ENABLE")
            ∷ aux_by 1 0x200 (offset_of mixer_configuration "AUX_BUS_ENABLE" + 2)
            ∷ [];
        output = cond (flagged (dirty_in bytes) 0x400_0000) (output_of bytes) m.output;
      })

-- a region after its configuration at a place was read, which begins with the dirty word: as with a voice's, "The dirty word is then 0"
abbrev pub cleared : ℕ → List ℕ → List ℕ
cleared at region = cond (eqb (at32 region at) 0) region (splice region at (replicate 4 0))
