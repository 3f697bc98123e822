-- The call's contract on each of its three ways: refused by its lengths, refused for a record, and served, where the loop's order leaves
-- what every order leaves. Assumes nothing.
use mathlib.Core.Path.{◌≡◌, refl, sym, ap, ◌∙◌, subst}
use mathlib.Core.Bool.{Bool, cond}
use mathlib.Core.List.Permᴰ
use mathlib.Core.List.{List, []}
use Prim.Native.Nat.{ℕ, zero, suc, ◌<◌}
use native.Mathlib.Omega.{arith}
use lib.IntN.{ℤ}
use lib.ListN.{length}
use Rattle.std.specs.Prelude.{Result, Ok}
use Rattle.refusals.specs.declared.Refusal.{Refusal as Reason}
use Rattle.refusals.specs.Numbers.{number}
use Rattle.lists.specs.Some.{some}
use Rattle.lists.proofs.Bools.{passed}
use Rattle.voice.specs.Malformed.{malformed}
use Rattle.voice.specs.declared.record.Voice.{Voice}
use Rattle.stems.specs.Call.{second_read, lengths, or_else, whole_number, called, all_voices}
use Rattle.stems.specs.Memory.{Lent, lane_length}
use Rattle.stems.specs.Inner.{Long}
use Rattle.stems.specs.Whole.{leaves, refusals}
use Rattle.stems.specs.declared.Fixed.{Fixed}
use Rattle.stems.proofs.Orders.{order}
use Rattle.stems.proofs.Turns.{all_waiting, turns_long}
use Rattle.stems.proofs.Whole.{every_order_long, refusals_order}
use Rattle.calls.specs.Refused.{refusals_of}
use Rattle.calls.specs.Begin.{second_of, lengths_code}
use Rattle.calls.specs.Lent.{lent}
use Rattle.calls.specs.declared.refused.Refused.{Refused}
use Rattle.turns.specs.Turns.{State, LongAt}
use Rattle.turns.proofs.Begun.{each_formed, room, all_voices_lem}
use Rattle.turns.proofs.Contract.{GivenBack, no_refusals, refused_by_lengths, refused_later, served}
use Rattle.turns.proofs.Turns.{memory_of}
use Rattle.voices.specs.Inner.{AllFormed}
use Rattle.voices.specs.Tick.{left, RefusedBy, Ensured}
use Rattle.voices.proofs.Turns.{st, after, in_turn_lem}

-- of both calls: `leaves` and `leaves_alone` are two definitions, and a lemma over both would say no more than these lines
stays : (n : ℕ) (fx : Fixed) (x : Lent) → (n ≡ 0 → ⊥) → leaves n fx x ≡ x
unfolding leaves
stays zero fx x h = absurd (h refl)
stays (suc n) fx x h = refl

module _ (fx : Fixed) (r0 r1 w : List ℕ) (ys : List Voice) (lanes mixes : List ℤ) where
  abbrev x : Lent
  x = lent r0 r1 w ys lanes mixes

  abbrev code : ℕ
  code = lengths_code fx (length ys) (length r0) (length r1) (length w) (length lanes) (length mixes)

  abbrev bad : Bool
  bad = some (malformed (lane_length (length lanes))) ys

  -- 7, where a record is malformed
  abbrev seven : ℕ
  seven = cond bad 7 0

  number_is : whole_number fx x ≡ or_else code seven
  unfolding whole_number lengths
  number_is = refl

  -- ---- refused as a whole

  untouched : (whole_number fx x ≡ 0 → ⊥) → x ≡ left fx x
  untouched h = sym (stays (whole_number fx x) fx x h)

  none_listed : (whole_number fx x ≡ 0 → ⊥) → RefusedBy fx x []
  none_listed h = record {
    order = all_voices;
    each_once = Permᴰ.refl all_voices;
    is = sym (no_refusals (whole_number fx x) fx x all_voices h);
  }

  pub refused_call : (e : Reason) → number e ≡ code → (r : Result Refused Reason) → GivenBack e r → Ensured fx x r x
  refused_call =
      refused_by_lengths (whole_number fx x) (left fx x) (RefusedBy fx x) x untouched none_listed code seven number_is

  pub malformed_call : (e : Reason) → code ≡ 0 → number e ≡ seven → (r : Result Refused Reason) → GivenBack e r
      → Ensured fx x r x
  malformed_call = refused_later (whole_number fx x) (left fx x) (RefusedBy fx x) x untouched none_listed code seven number_is

  -- ---- served

  module _ (zero_is : code ≡ 0) where
    abbrev all_voices_lent : length ys ≡ 24
    all_voices_lent = all_voices_lem fx r0 r1 w ys lanes mixes zero_is

    pub goes_on : seven ≡ 0 → AllFormed (lane_length (length lanes)) ys
    goes_on good = each_formed ys (length lanes) (passed bad 6 0 good).0

    module _ (good : seven ≡ 0) (long : (j : ℕ) → j < length ys → LongAt fx w (second_of fx r0 r1) j (st fx w ys r0 r1 lanes j)) where
      abbrev second : Bool
      second = second_of fx r0 r1

      abbrev last : State
      last = st fx w ys r0 r1 lanes (length ys)

      all_long : Long fx second x.memory
      all_long v h =
          let o = order (Permᴰ.refl all_voices) in
          turns_long fx second all_voices x.memory x.memory
          (in_turn_lem fx w ys r0 r1 lanes (room fx r0 r1 w ys lanes mixes zero_is).0
          (λ j k. long j (subst (λ (n : ℕ). j < n) (sym all_voices_lent) k)) 24 (omega arith))
          o.distinct (all_waiting fx second all_voices x.memory) v h (omega (arith, o.one v h))

      number_0 : whole_number fx x ≡ 0
      number_0 = number_is ∙ ap (λ (n : ℕ). or_else n seven) zero_is ∙ good

      left_is : (called 0 fx all_voices x).left ≡ left fx x
      unfolding lengths second_of second_read
      left_is =
          every_order_long fx x zero_is all_long all_voices (Permᴰ.refl all_voices) ∙ ap (λ (n : ℕ). leaves n fx x) (sym number_0)

      memory_is : memory_of fx w last ≡ (left fx x).memory
      unfolding called second_of second_read
      memory_is =
          ap (λ (n : ℕ). memory_of fx w (st fx w ys r0 r1 lanes n)) all_voices_lent
          ∙ (after fx w ys r0 r1 lanes 24 (omega arith)).memory ∙ ap (λ (y : Lent). y.memory) left_is

      mixes_are : last.mixes ≡ (left fx x).mixes
      unfolding called second_of second_read
      mixes_are =
          ap (λ (n : ℕ). (st fx w ys r0 r1 lanes n).mixes) all_voices_lent
          ∙ (after fx w ys r0 r1 lanes 24 (omega arith)).mixes ∙ ap (λ (y : Lent). y.mixes) left_is

      refused_are : RefusedBy fx x last.refused
      unfolding refusals lengths second_of second_read
      refused_are = record {
        order = all_voices;
        each_once = Permᴰ.refl all_voices;
        is =
            ap (λ (n : ℕ). (st fx w ys r0 r1 lanes n).refused) all_voices_lent
            ∙ (after fx w ys r0 r1 lanes 24 (omega arith)).refused
            ∙ refusals_order fx x zero_is all_long all_voices (Permᴰ.refl all_voices)
            ∙ ap (λ (n : ℕ). refusals n fx x all_voices) (sym number_0);
      }

      pub served_call : (refused : Refused) (zs : List Voice) (s0 s1 : List ℕ) (ls ms : List ℤ)
          → refusals_of refused.items ≡ last.refused → zs ≡ last.voices → s0 ≡ last.region0 → s1 ≡ last.region1 → ls ≡ last.lanes
          → ms ≡ last.mixes → Ensured fx x (Ok refused) (lent s0 s1 w zs ls ms)
      served_call =
          served (whole_number fx x) (left fx x) (RefusedBy fx x) fx w last memory_is mixes_are refused_are number_0
