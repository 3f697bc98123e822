-- What a call may rely on once none of 1 to 6 applies and no record is malformed: the lengths, and each record's form. By taking the
-- numbers apart. Assumes nothing.
use mathlib.Core.Path.{◌≡◌, subst}
use mathlib.Core.Bool.{false}
use mathlib.Core.List.{List}
use Prim.Native.Nat.{ℕ, ◌<◌}
use native.Mathlib.Omega.{arith}
use lib.Dec.{lit<}
use lib.IntN.{ℤ}
use lib.ListN.{length, get_or}
use Rattle.numbers.specs.Sizes.{MIXES}
use Rattle.lists.specs.Some.{some}
use Rattle.lists.proofs.Some.{none_each}
use Rattle.voice.specs.Blank.{default_voice}
use Rattle.voice.specs.Malformed.{malformed, WellFormed}
use Rattle.voice.specs.declared.record.Voice.{Voice}
use Rattle.voice.proofs.Formed.{not_malformed_formed}
use Rattle.stems.specs.Call.{lengths}
use Rattle.stems.specs.Memory.{Memory, lane_length}
use Rattle.stems.specs.declared.Fixed.{Fixed}
use Rattle.stems.proofs.Shape.{Fits, fits}
use Rattle.calls.specs.Begin.{Fitting, Counted, lengths_of, lengths_code}

pub each_formed : (ys : List Voice) (lanes : ℕ) → some (malformed (lane_length lanes)) ys ≡ false → (j : ℕ) → j < length ys
    → WellFormed (lane_length lanes) (get_or ys j default_voice)
each_formed ys lanes good j h =
    not_malformed_formed (lane_length lanes) _ (none_each (malformed (lane_length lanes)) ys default_voice good j h)

-- the frame counter lies in both regions
pub counted : (fx : Fixed) (region0 region1 window lanes mixes : ℕ) → Fitting fx region0 region1 window lanes mixes
    → Counted fx region0 region1
counted fx region0 region1 window lanes mixes fit =
    let layout = (fits fx (lengths_of 24 region0 region1 window lanes) mixes fit).0.layout in record {
      in0 = omega (arith, layout.within 3 (lit< tt));
      in1 = omega (arith, layout.within 3 (lit< tt), layout.same);
    }

module _
    (fx : Fixed) (r0 r1 w : List ℕ) (ys : List Voice) (lanes mixes : List ℤ)
    (zero_is : lengths_code fx (length ys) (length r0) (length r1) (length w) (length lanes) (length mixes) ≡ 0) where
  abbrev m : Memory
  m = record { region0 = r0; region1 = r1; window = w; records = ys; lanes = lanes }

  pub room : Fits fx (lengths m) × (length mixes ≡ 1920)
  unfolding lengths
  room = fits fx (lengths m) (length mixes) zero_is

  pub all_voices_lem : length ys ≡ 24
  unfolding lengths
  all_voices_lem = room.0.records

  -- the lengths fit what serves a voice
  pub fitting : Fitting fx (length r0) (length r1) (length w) (length lanes) MIXES
  fitting =
      subst (λ (n : ℕ). lengths_code fx n (length r0) (length r1) (length w) (length lanes) MIXES ≡ 0) all_voices_lem
      (subst (λ (n : ℕ). lengths_code fx (length ys) (length r0) (length r1) (length w) (length lanes) n ≡ 0) room.1 zero_is)
