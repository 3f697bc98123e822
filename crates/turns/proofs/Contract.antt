-- What the contracts of both calls say, refused as a whole or served, over what differs: the call's number, what it leaves, and what holds
-- of its list. Assumes nothing.
use mathlib.Core.Path.{◌≡◌, refl, sym, ap, ◌∙◌, subst}
use mathlib.Core.List.{List, []}
use Prim.Native.Nat.{ℕ, zero, suc}
use native.Mathlib.Omega.{arith}
use lib.IntN.{ℤ}
use Rattle.std.specs.Prelude.{Result, Ok, Err}
use Rattle.std.specs.Result.{IsErrAnd}
use Rattle.std.proofs.lemmas.Result.{err_from_is_err_and}
use Rattle.refusals.specs.declared.Refusal.{Refusal as Reason}
use Rattle.refusals.specs.Numbers.{number, number_of}
use Rattle.refusals.proofs.Numbers.{positive}
use Rattle.voice.specs.declared.record.Voice.{Voice}
use Rattle.stems.specs.Call.{Refusal, or_else}
use Rattle.stems.specs.Memory.{Memory, Lent}
use Rattle.stems.specs.Whole.{refusals}
use Rattle.stems.specs.declared.Fixed.{Fixed}
use Rattle.calls.specs.Refused.{refusals_of, given}
use Rattle.calls.specs.Lent.{lent}
use Rattle.calls.specs.declared.refused.Refused.{Refused}
use Rattle.calls.proofs.Numbers.{first_one}
use Rattle.turns.specs.Turns.{State}
use Rattle.turns.proofs.Turns.{memory_of}

-- a call that is refused as a whole lists no voice
pub no_refusals : (n : ℕ) (fx : Fixed) (x : Lent) (order : List ℕ) → (n ≡ 0 → ⊥) → refusals n fx x order ≡ []
unfolding refusals
no_refusals zero fx x order h = absurd (h refl)
no_refusals (suc n) fx x order h = refl

-- this refusal is what `?` gives back
abbrev pub GivenBack : Reason → Result Refused Reason → Type 0
GivenBack e r = IsErrAnd r (λ y. y ≡ e)

module _ (n : ℕ) (left : Lent) (Lists : List Refusal → Type 0) where
  -- what is ensured
  abbrev pub Leaves : Result Refused Reason → Lent → Type 0
  Leaves r after =
      (number_of r ≡ n) × (after.memory.records ≡ left.memory.records) × (after.memory.region0 ≡ left.memory.region0)
      × (after.memory.region1 ≡ left.memory.region1) × (after.memory.lanes ≡ left.memory.lanes) × (after.mixes ≡ left.mixes)
      × Lists (given r)

  -- ---- refused as a whole, first by how much is lent

  module _
      (x : Lent) (stays : (n ≡ 0 → ⊥) → x ≡ left) (none : (n ≡ 0 → ⊥) → Lists [])
      (code late : ℕ) (is_else : n ≡ or_else code late) where
    refused_with : (e : Reason) → number e ≡ n → (r : Result Refused Reason) → GivenBack e r → Leaves r x
    refused_with e is r given_back =
        let p = err_from_is_err_and r given_back in
        let at : r ≡ Err e = p.1 ∙ ap Err p.2 in
        let not_0 : n ≡ 0 → ⊥ = λ z. omega (arith, positive e, is, z) in
        let same = stays not_0 in (
          ap number_of at ∙ is,
          ap (λ (y : Lent). y.memory.records) same,
          ap (λ (y : Lent). y.memory.region0) same,
          ap (λ (y : Lent). y.memory.region1) same,
          ap (λ (y : Lent). y.memory.lanes) same,
          ap (λ (y : Lent). y.mixes) same,
          subst Lists (sym (ap given at)) (none not_0),
        )

    pub refused_by_lengths : (e : Reason) → number e ≡ code → (r : Result Refused Reason) → GivenBack e r → Leaves r x
    refused_by_lengths e is =
        refused_with e (is ∙ sym (is_else ∙ first_one code late (λ z. omega (arith, positive e, is, z))))

    pub refused_later : (e : Reason) → code ≡ 0 → number e ≡ late → (r : Result Refused Reason) → GivenBack e r → Leaves r x
    refused_later e zero_is is = refused_with e (is ∙ sym (is_else ∙ ap (λ (k : ℕ). or_else k late) zero_is))

  -- ---- served

  module _
      (fx : Fixed) (w : List ℕ) (last : State) (memory_is : memory_of fx w last ≡ left.memory) (mixes_are : last.mixes ≡ left.mixes)
      (listed : Lists last.refused) where
    pub served : n ≡ 0 → (refused : Refused) (zs : List Voice) (s0 s1 : List ℕ) (ls ms : List ℤ)
        → refusals_of refused.items ≡ last.refused → zs ≡ last.voices → s0 ≡ last.region0 → s1 ≡ last.region1 → ls ≡ last.lanes
        → ms ≡ last.mixes → Leaves (Ok refused) (lent s0 s1 w zs ls ms)
    served number_0 refused zs s0 s1 ls ms er ez e0 e1 el em = (
      sym number_0,
      ez ∙ ap (λ (y : Memory). y.records) memory_is,
      e0 ∙ ap (λ (y : Memory). y.region0) memory_is,
      e1 ∙ ap (λ (y : Memory). y.region1) memory_is,
      el ∙ ap (λ (y : Memory). y.lanes) memory_is,
      em ∙ mixes_are,
      subst Lists (sym er) listed,
    )
