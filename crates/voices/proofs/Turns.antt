-- The state of the loop after i records is what the first i voices leave, served in turn: one turn of the loop is one voice served, and the
-- rest is by induction on i. Assumes nothing.
use mathlib.Core.Path.{◌≡◌, refl, sym, ap, ◌∙◌, subst}
use mathlib.Core.Bool.{Bool}
use mathlib.Core.List.{List}
use Prim.Native.Nat.{ℕ, zero, suc, ◌<◌, ◌≤◌}
use native.Mathlib.Omega.{arith}
use lib.IntN.{ℤ}
use lib.ListN.{length}
use Rattle.voice.specs.declared.record.Voice.{Voice}
use Rattle.voice_frame.specs.VoiceFrame.{Answer, number_of, mixes_after}
use Rattle.stems.specs.Call.{answer, serve, serve_all, mixes_in, refusals_in, lengths, up_to, no_mixes}
use Rattle.stems.specs.Memory.{Memory, lane_length}
use Rattle.stems.specs.Inner.{LongAs}
use Rattle.stems.specs.declared.Fixed.{Fixed}
use Rattle.stems.proofs.Later.{serves_more, mixes_more, refusals_more, turns_more}
use Rattle.stems.proofs.Shape.{Fits}
use Rattle.stems.proofs.Turns.{Turns, all_lengths}
use Rattle.calls.specs.Refused.{refused_after}
use Rattle.calls.specs.Begin.{second_of}
use Rattle.turns.specs.Turns.{State, LongAt}
use Rattle.turns.proofs.Turns.{memory_of, turn_memory, turn_mixes, turn_carried, turn_long}
use Rattle.voices.specs.Inner.{ticked}

module _ (fx : Fixed) (w : List ℕ) where
  module _ (ys : List Voice) (r0 r1 : List ℕ) (lanes : List ℤ) where
    abbrev pub m : Memory
    m = record { region0 = r0; region1 = r1; window = w; records = ys; lanes = lanes }

    abbrev pub second : Bool
    second = second_of fx r0 r1

    abbrev pub st : ℕ → State
    st i = ticked fx w second i ys r0 r1 lanes

    pub record After (i : ℕ) : Type 0 where
      pub memory : memory_of fx w (st i) ≡ serve_all fx second (up_to i) m
      pub mixes : (st i).mixes ≡ mixes_in fx second (up_to i) m no_mixes
      pub refused : (st i).refused ≡ refusals_in fx second (up_to i) m

    none_yet : After 0
    unfolding up_to serve_all mixes_in refusals_in
    none_yet = record { memory = refl; mixes = refl; refused = refl }

    module _ (i : ℕ) (h : i < 24) (a : After i) where
      abbrev before : Memory
      before = serve_all fx second (up_to i) m

      got_is : answer fx second i (memory_of fx w (st i)) ≡ answer fx second i before
      got_is = ap (λ (x : Memory). answer fx second i x) a.memory

      one_more : After (suc i)
      unfolding up_to
      one_more = record {
        memory =
            turn_memory fx w second i (st i) ∙ ap (serve fx second i) a.memory ∙ sym (serves_more fx second i (up_to i) m);
        mixes =
            turn_mixes fx w second i (st i) ∙ ap (λ (x : Answer). mixes_after x (st i).mixes) got_is
            ∙ ap (mixes_after (answer fx second i before)) a.mixes ∙ sym (mixes_more fx second i (up_to i) m no_mixes);
        refused =
            turn_carried fx w second i (st i)
            ∙ ap (λ (x : Answer). refused_after i (number_of x) (st i).refused) got_is
            ∙ ap (refused_after i (number_of (answer fx second i before))) a.refused
            ∙ sym (refusals_more fx second i (up_to i) m);
      }

    pub after : (i : ℕ) → i ≤ 24 → After i
    after zero h = none_yet
    after (suc i) h = one_more i (omega arith) (after i (omega arith))

    -- each voice in its turn
    pub in_turn_lem : Fits fx (lengths m) → ((j : ℕ) → j < 24 → LongAt fx w second j (st j))
        → (i : ℕ) → i ≤ 24 → Turns fx second (up_to i) m
    unfolding up_to Turns
    in_turn_lem f long zero h = tt
    in_turn_lem f long (suc i) h =
        let a = after i (omega arith) in
        turns_more fx second i (up_to i) m (in_turn_lem f long i (omega arith)) (record {
          voice = omega arith;
          fit = subst (Fits fx) (sym (all_lengths fx second (up_to i) m)) f;
          long =
              subst (λ (x : Memory). LongAs (lane_length (length x.lanes)) (answer fx second i x)) a.memory
              (turn_long fx w second i (st i) (long i (omega arith)));
        })
