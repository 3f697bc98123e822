-- What the loop over the records knows after i of them: the records not yet served, and the lengths. By what one
-- turn changes. Assumes nothing.
use mathlib.Core.Path.{◌≡◌, sym, ◌∙◌, subst}
use mathlib.Core.List.{List}
use Prim.Native.Nat.{ℕ, ◌+◌, ◌<◌, ◌≤◌}
use native.Mathlib.Decide.{dec_lt}
use native.Mathlib.Omega.{arith}
use lib.ListN.{set, get_or}
use lib.Seq.{get_or-set_other}
use Rattle.voice.specs.Blank.{default_voice}
use Rattle.voice.specs.declared.record.Voice.{Voice}
use Rattle.numbers.specs.Sizes.{MIXES}
use Rattle.stems.specs.declared.Fixed.{Fixed}
use Rattle.calls.specs.Begin.{Fitting}

pub fitting_now :
    (fx : Fixed) (a a' b b' w l l' : ℕ) → a' ≡ a → b' ≡ b → l' ≡ l → Fitting fx a b w l MIXES → Fitting fx a' b' w l' MIXES
fitting_now fx a a' b b' w l l' ea eb el h =
    subst (λ (x : ℕ). Fitting fx x b' w l' MIXES) (sym ea)
    (subst (λ (x : ℕ). Fitting fx a x w l' MIXES) (sym eb) (subst (λ (x : ℕ). Fitting fx a b w x MIXES) (sym el) h))

-- the records behind the one at hand are as they were
pub others_stay :
    (ys zs : List Voice) (i : ℕ) (v : Voice) → ((j : ℕ) → i ≤ j → get_or zs j default_voice ≡ get_or ys j default_voice)
    → (j : ℕ) → i + 1 ≤ j → get_or (set zs i v) j default_voice ≡ get_or ys j default_voice
others_stay ys zs i v h j k = get_or-set_other zs i j v default_voice (λ e. omega arith) ∙ h j (omega arith)

pub upto_next : (P : ℕ → Type 0) (i : ℕ) → ((j : ℕ) → j < i → P j) → P i → (j : ℕ) → j < i + 1 → P j
upto_next P i h p j k = go (dec_lt j i)
  where
    go : Dec (j < i) → P j
    go (yes l) = h j l
    go (no l) = subst P (omega arith) p
