-- The frame of a call that is served, by the state in force, the region that is read and the mixes; and what goes to the other region.
-- Assumes nothing: these are definitions.
use Rattle.std.specs.Prelude.{ℕ, zero, suc, ◌+◌, ◌*◌, cond, List, ℤ, pos, replicate}
use Rattle.lists.specs.Splice.{part, splice}
use Rattle.layout.specs.declared.Layout.{Layout}
use Rattle.numbers.specs.Sizes.{FRAME, MIX}
use Rattle.mix_bytes.specs.Sizes.{aux_bytes}
use Rattle.mix_bytes.specs.Mixes.{words_in, word_bytes, sample_bytes}
use Rattle.mixer_state.specs.State.{aux_on}
use Rattle.mixer_state.specs.declared.Mixer.{Mixer}
use Rattle.downmix.specs.Downmix.{downmixed}

-- mix k of the three
abbrev pub mix_of : ℕ → List ℤ → List ℤ
mix_of k mixes = part (k * MIX) MIX mixes

-- 160 pairs of silence
abbrev pub silence : List ℤ
silence = replicate FRAME (pos 0)

module _ (l : Layout) where
  -- where the mix of aux bus k stands
  abbrev pub aux_at : ℕ → ℕ
  aux_at k = l.intermediate_samples + k * aux_bytes

  module _ (s : Mixer) (mixes : List ℤ) where
    -- a region with the new mix of aux bus k, where that is on
    abbrev pub sent : ℕ → List ℕ → List ℕ
    sent k write = cond (aux_on s k) (splice write (aux_at k) (word_bytes (mix_of (suc k) mixes))) write

    -- a region with the new mixes of the aux buses and these final samples
    abbrev pub out_of : List ℤ → List ℕ → List ℕ
    out_of frame write = splice (sent 1 (sent 0 write)) l.final_samples (sample_bytes frame)

  module _ (s : Mixer) (read : List ℕ) (mixes : List ℤ) where
    -- mix k as it reaches the output: "Aux on: its mix is read from the read region"
    abbrev pub heard : ℕ → List ℤ
    heard zero = mix_of 0 mixes
    heard (suc k) = cond (aux_on s k) (words_in (part (aux_at k) aux_bytes read)) (mix_of (suc k) mixes)

    -- a frame with mix k added
    abbrev pub with : ℕ → List ℤ → List ℤ
    with k frame = downmixed s k (heard k) frame

    -- "Mixes 0, 1, 2 are added in turn"
    abbrev pub frame_of : List ℤ
    frame_of = with 2 (with 1 (with 0 silence))

    -- the other region, after: "the new one written to the other", and the final samples
    abbrev pub write_after : List ℕ → List ℕ
    write_after write = out_of s mixes frame_of write
