-- Each outcome that the theorem's calls allow is one that a call can give back: its number is 0 or that of a refusal, and each voice that
-- it lists has the number of a refusal. By taking the numbers apart, and by induction on the order of serving. Assumes nothing.
use mathlib.Core.Path.{◌≡◌, refl, sym}
use mathlib.Core.Bool.{Bool, true, false, cond}
use mathlib.Core.List.{List, [], ◌∷◌}
use mathlib.Core.Logic.{◌⊎◌, inl, inr}
use Prim.Native.Nat.{ℕ, zero, suc}
use native.Mathlib.Omega.{arith}
use Rattle.std.specs.Prelude.{Ok, Err}
use Rattle.refusals.specs.declared.Refusal.{Refusal as Reason}
use Rattle.refusals.specs.declared.Refusal.TheVariants.{RegionLengths, PlaceOutside, PlacesShare, WindowEnd, RecordsOrLanes, MixLength}
use Rattle.refusals.specs.declared.Refusal.TheVariants.{Malformed, VoiceNumber, QueueFull, EntryTooLong}
use Rattle.refusals.specs.Numbers.{number}
use Rattle.refusals.proofs.Numbers.{positive}
use Rattle.voice_frame.specs.VoiceFrame.{Fed, Answer, served, refused, voice_frame, number_of}
use Rattle.voice_laws.proofs.Frame.{refused_numbers}
use Rattle.stems.specs.Call.{Refusal, Outcome, or_else, noted, lengths_number, whole_number, alone_number, answer}
use Rattle.stems.specs.Memory.{Lent}
use Rattle.stems.specs.Whole.{refused_of, refusals}
use Rattle.stems.specs.declared.Fixed.{Fixed}
use Rattle.calls.specs.Refused.{refusals_of}
use Rattle.calls.specs.declared.refused.RefusedVoice.{RefusedVoice}
use Rattle.runs.specs.Runs.{Done, outcome_of}

-- ---- the numbers

-- a number is 0 or a refusal's
abbrev pub Told : ℕ → Type 0
Told n = (n ≡ 0) ⊎ ((e : Reason) × (number e ≡ n))

told_if : (b : Bool) (e : Reason) (n : ℕ) → Told n → Told (cond b (number e) n)
told_if true e n t = inr (e, refl)
told_if false e n t = t

told_or : (a b : ℕ) → Told a → Told b → Told (or_else a b)
told_or zero b s t = t
told_or (suc a) b s t = s

pub told_whole : (fx : Fixed) (x : Lent) → Told (whole_number fx x)
unfolding whole_number lengths_number
told_whole fx x =
    told_or _ _
    (told_or _ _ (told_if _ RegionLengths _ (told_if _ PlaceOutside _ (told_if _ PlacesShare 0 (inl refl))))
    (told_or _ _ (told_if _ WindowEnd 0 (inl refl)) (told_if _ RecordsOrLanes _ (told_if _ MixLength 0 (inl refl)))))
    (told_if _ Malformed 0 (inl refl))

pub told_alone : (fx : Fixed) (v : ℕ) (x : Lent) → Told (alone_number fx v x)
unfolding alone_number
told_alone fx v x = told_or _ _ (told_whole fx x) (told_if _ VoiceNumber 0 (inl refl))

told_frame : (f : Fed) → Told (number_of (voice_frame f))
told_frame f = go (voice_frame f) refl
  where
    named : (n : ℕ) → (n ≡ 20) ⊎ (n ≡ 21) → Told n
    named n (inl h) = inr (QueueFull, sym h)
    named n (inr h) = inr (EntryTooLong, sym h)

    go : (a : Answer) → voice_frame f ≡ a → Told (number_of a)
    go (served g) e = inl refl
    go (refused n) e = named n (refused_numbers f n e)

-- ---- the lists

-- a list of refusals is that of a list that is given back
abbrev pub Shown : List Refusal → Type 0
Shown rs = (vs : List RefusedVoice) × (refusals_of vs ≡ rs)

shown_noted : (v n : ℕ) (rs : List Refusal) → Told n → Shown rs → Shown (noted v n rs)
unfolding noted
shown_noted v zero rs t s = s
shown_noted v (suc n) rs (inl z) s = absurd (omega (arith, z))
shown_noted v (suc n) rs (inr e) s =
    (record { voice = v; refusal = e.0 } ∷ s.0, λ j. record { voice = v; number = e.1 j } ∷ s.1 j)

shown_of : (number : ℕ → ℕ) → ((v : ℕ) → Told (number v)) → (vs : List ℕ) → Shown (refused_of number vs)
unfolding refused_of
shown_of number told [] = ([], refl)
shown_of number told (v ∷ vs) = shown_noted v (number v) _ (told v) (shown_of number told vs)

pub shown_refusals : (n : ℕ) (fx : Fixed) (x : Lent) (order : List ℕ) → Shown (refusals n fx x order)
unfolding refusals answer
shown_refusals zero fx x order = shown_of _ (λ v. told_frame _) order
shown_refusals (suc n) fx x order = ([], refl)

-- ---- what is given back

pub done_by : (o : Outcome) → Told o.code → Shown o.refusals → ((o.code ≡ 0 → ⊥) → o.refusals ≡ []) → (d : Done) × (outcome_of d ≡ o)
unfolding outcome_of
done_by o (inl z) s none = (
  record { returned = Ok (record { items = s.0 }); after = o.left },
  λ j. record { code = sym z j; refusals = s.1 j; left = o.left },
)
done_by o (inr e) s none = (
  record { returned = Err e.0; after = o.left },
  λ j. record { code = e.1 j; refusals = sym (none (λ z. omega (arith, positive e.0, e.1, z))) j; left = o.left },
)
