-- The call's contract on each of its three ways: refused by its lengths, refused for a record or for the voice's number, and served, where
-- one turn is one voice served. Assumes nothing.
use mathlib.Core.Path.{◌≡◌, refl, sym, ap, ◌∙◌, subst}
use mathlib.Core.Bool.{Bool, false, cond}
use mathlib.Core.List.{List, [], ◌∷◌}
use Prim.Native.Nat.{ℕ, zero, suc, ◌<◌}
use native.Mathlib.Omega.{arith}
use lib.Dec.{ltb}
use lib.IntN.{ℤ}
use lib.ListN.{length, get_or}
use borrow.Author.Tests.{ltb-false}
use Rattle.std.specs.Prelude.{Result, Ok}
use Rattle.refusals.specs.declared.Refusal.{Refusal as Reason}
use Rattle.refusals.specs.Numbers.{number}
use Rattle.lists.specs.Some.{some}
use Rattle.lists.proofs.Bools.{passed}
use Rattle.voice.specs.Blank.{default_voice}
use Rattle.voice.specs.Malformed.{malformed, WellFormed}
use Rattle.voice.specs.declared.record.Voice.{Voice}
use Rattle.stems.specs.Alone.{leaves_alone}
use Rattle.stems.specs.Call.{Refusal, second_read, answer, lengths, or_else, whole_number, alone_number}
use Rattle.stems.specs.Memory.{Lent, lane_length}
use Rattle.stems.specs.Whole.{refusals, refused_of}
use Rattle.stems.specs.declared.Fixed.{Fixed}
use Rattle.stems.proofs.Mixes.{mixes_alone}
use Rattle.stems.proofs.Shape.{neither}
use Rattle.calls.specs.Refused.{refusals_of}
use Rattle.calls.specs.Begin.{second_of, lengths_code}
use Rattle.calls.specs.Lent.{lent}
use Rattle.calls.specs.declared.refused.Refused.{Refused}
use Rattle.turns.specs.Turns.{State, beginning}
use Rattle.alone.specs.Inner.{ticked}
use Rattle.turns.proofs.Begun.{each_formed, all_voices_lem}
use Rattle.turns.proofs.Contract.{GivenBack, no_refusals, refused_by_lengths, refused_later, served}
use Rattle.turns.proofs.Turns.{memory_of, turn_memory, turn_mixes, turn_carried}
use Rattle.alone.specs.TickVoice.{left, refused, Ensured}

-- of both calls: `leaves` and `leaves_alone` are two definitions, and a lemma over both would say no more than these lines
stays : (n : ℕ) (fx : Fixed) (v : ℕ) (x : Lent) → (n ≡ 0 → ⊥) → leaves_alone n fx v x ≡ x
unfolding leaves_alone
stays zero fx v x h = absurd (h refl)
stays (suc n) fx v x h = refl

in_order : (a b c : ℕ) → or_else (or_else a b) c ≡ or_else a (or_else b c)
in_order zero b c = refl
in_order (suc a) b c = refl

module _ (fx : Fixed) (v : ℕ) (r0 r1 w : List ℕ) (ys : List Voice) (lanes mixes : List ℤ) where
  abbrev x : Lent
  x = lent r0 r1 w ys lanes mixes

  abbrev code : ℕ
  code = lengths_code fx (length ys) (length r0) (length r1) (length w) (length lanes) (length mixes)

  abbrev bad : Bool
  bad = some (malformed (lane_length (length lanes))) ys

  abbrev late : ℕ
  late = or_else (cond bad 7 0) (cond (ltb 23 v) 10 0)

  number_is : alone_number fx v x ≡ or_else code late
  unfolding alone_number whole_number lengths
  number_is = in_order code (cond bad 7 0) (cond (ltb 23 v) 10 0)

  -- ---- refused as a whole

  -- what holds of the list
  abbrev Lists : List Refusal → Type 0
  Lists rs = rs ≡ refused fx v x

  untouched : (alone_number fx v x ≡ 0 → ⊥) → x ≡ left fx v x
  untouched h = sym (stays (alone_number fx v x) fx v x h)

  none_listed : (alone_number fx v x ≡ 0 → ⊥) → Lists []
  none_listed h = sym (no_refusals (alone_number fx v x) fx x (v ∷ []) h)

  pub refused_call : (e : Reason) → number e ≡ code → (r : Result Refused Reason) → GivenBack e r → Ensured fx v x r x
  refused_call = refused_by_lengths (alone_number fx v x) (left fx v x) Lists x untouched none_listed code late number_is

  pub late_call : (e : Reason) → code ≡ 0 → number e ≡ late → (r : Result Refused Reason) → GivenBack e r
      → Ensured fx v x r x
  late_call = refused_later (alone_number fx v x) (left fx v x) Lists x untouched none_listed code late number_is

  -- ---- served

  module _ (zero_is : code ≡ 0) (good : late ≡ 0) where
    none_bad : bad ≡ false
    none_bad = (passed bad 6 0 (neither (cond bad 7 0) (cond (ltb 23 v) 10 0) good).0).0

    a_voice : v < 24
    a_voice = omega (arith, ltb-false 23 v (passed (ltb 23 v) 9 0 (neither (cond bad 7 0) (cond (ltb 23 v) 10 0) good).1).0)

    pub lent_too : v < length ys
    lent_too = subst (λ (n : ℕ). v < n) (sym (all_voices_lem fx r0 r1 w ys lanes mixes zero_is)) a_voice

    pub formed : WellFormed (lane_length (length lanes)) (get_or ys v default_voice)
    formed = each_formed ys (length lanes) none_bad v lent_too

    abbrev second : Bool
    second = second_of fx r0 r1

    abbrev first : State
    first = beginning ys r0 r1 lanes

    abbrev last : State
    last = ticked fx w second v ys r0 r1 lanes

    number_0 : alone_number fx v x ≡ 0
    number_0 = number_is ∙ ap (λ (n : ℕ). or_else n late) zero_is ∙ good

    left_is : leaves_alone 0 fx v x ≡ left fx v x
    left_is = ap (λ (n : ℕ). leaves_alone n fx v x) (sym number_0)

    memory_is : memory_of fx w last ≡ (left fx v x).memory
    unfolding leaves_alone second_read second_of
    memory_is = turn_memory fx w second v first ∙ ap (λ (y : Lent). y.memory) left_is

    mixes_are : last.mixes ≡ (left fx v x).mixes
    unfolding leaves_alone second_read second_of
    mixes_are =
        turn_mixes fx w second v first ∙ mixes_alone (answer fx second v x.memory) ∙ ap (λ (y : Lent). y.mixes) left_is

    refused_is : last.refused ≡ refused fx v x
    unfolding refusals refused_of second_read second_of
    refused_is =
        turn_carried fx w second v first
        ∙ ap (λ (n : ℕ). refusals n fx x (v ∷ [])) (sym number_0)

    pub served_call : (refused : Refused) (zs : List Voice) (s0 s1 : List ℕ) (ls ms : List ℤ)
        → refusals_of refused.items ≡ last.refused → zs ≡ last.voices → s0 ≡ last.region0 → s1 ≡ last.region1 → ls ≡ last.lanes
        → ms ≡ last.mixes → Ensured fx v x (Ok refused) (lent s0 s1 w zs ls ms)
    served_call = served (alone_number fx v x) (left fx v x) Lists fx w last memory_is mixes_are refused_is number_0
