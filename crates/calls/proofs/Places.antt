-- The places of a list of refused voices once one more voice is put behind the others: by induction on those before it. Assumes nothing.
use Rattle.std.proofs.Common.{◌≡◌, ℕ, suc, ◌+◌, ◌-◌, ◌<◌, List, [], ◌∷◌, ◌++◌, length, set, take, replicate, refl, sym, ap, ◌∙◌}
use Rattle.std.proofs.Common.{arith, length-append, length-take-le}
use Rattle.std.proofs.lemmas.List.{take_more_set}
use Rattle.stems.specs.Memory.{VOICES}
use Rattle.calls.specs.Places.{nobody, padded}
use Rattle.calls.specs.declared.refused.RefusedVoice.{RefusedVoice}

first_place : {A : Type 0} → (xs : List A) (n : ℕ) (x y : A)
    → set (xs ++ replicate (suc n) x) (length xs) y ≡ (xs ++ y ∷ []) ++ replicate n x
first_place [] n x y = refl
first_place (z ∷ xs) n x y = ap (λ zs. z ∷ zs) (first_place xs n x y)

padded_more : (vs : List RefusedVoice) (v : RefusedVoice) → length vs < VOICES
    → set (padded vs) (length vs) v ≡ padded (vs ++ v ∷ [])
padded_more vs v h =
    let n = VOICES - length (vs ++ v ∷ []) in
    let one : VOICES - length vs ≡ suc n = omega (arith, h, length-append vs (v ∷ [])) in
    ap (λ (k : ℕ). set (vs ++ replicate k nobody) (length vs) v) one ∙ first_place vs n nobody v

-- behind one more voice there is nobody
pub nobody_behind : (places : List RefusedVoice) (count : ℕ) (v : RefusedVoice) → count < VOICES → length places ≡ VOICES
    → places ≡ padded (take count places) → set places count v ≡ padded (take (count + 1) (set places count v))
nobody_behind places count v few all behind =
    let vs = take count places in
    let long : length vs ≡ count = length-take-le count places (omega (arith, few, all)) in
    ap (λ (xs : List RefusedVoice). set xs count v) behind ∙ ap (λ (k : ℕ). set (padded vs) k v) (sym long)
    ∙ padded_more vs v (omega (arith, few, long)) ∙ ap padded (sym (take_more_set places count v (omega (arith, few, all))))
