-- One more voice served behind those of a list: what it leaves, adds and is refused with comes last. By induction on the list. Assumes
-- nothing.
use mathlib.Core.Path.{◌≡◌, refl, ap, ◌∙◌}
use mathlib.Core.Bool.{Bool}
use mathlib.Core.List.{List, [], ◌∷◌, ◌++◌}
use Prim.Native.Nat.{ℕ, zero, suc, ◌≤◌, ◌+◌}
use native.Mathlib.Omega.{arith}
use lib.IntN.{ℤ}
use lib.ListN.{length, length-append}
use Rattle.voice_frame.specs.VoiceFrame.{number_of, mixes_after}
use Rattle.stems.specs.declared.Fixed.{Fixed}
use Rattle.stems.specs.Memory.{Memory}
use Rattle.stems.specs.Call.{answer, serve, serve_all, mixes_in, Refusal, noted, refusals_in, up_to}
use Rattle.stems.proofs.Serve.{Turn}
use Rattle.stems.proofs.Turns.{Turns}

noted_more : (v n : ℕ) (rs ss : List Refusal) → noted v n (rs ++ ss) ≡ noted v n rs ++ ss
unfolding noted
noted_more v zero rs ss = refl
noted_more v (suc n) rs ss = refl

noted_one : (v n : ℕ) (rs : List Refusal) → length (noted v n rs) ≤ length rs + 1
unfolding noted
noted_one v zero rs = omega arith
noted_one v (suc n) rs = omega arith

module _ (fx : Fixed) (second : Bool) (v : ℕ) where
  pub serves_more : (vs : List ℕ) (m : Memory) → serve_all fx second (vs ++ (v ∷ [])) m ≡ serve fx second v (serve_all fx second vs m)
  unfolding serve_all
  serves_more [] m = refl
  serves_more (w ∷ ws) m = serves_more ws (serve fx second w m)

  pub mixes_more : (vs : List ℕ) (m : Memory) (mixes : List ℤ)
      → mixes_in fx second (vs ++ (v ∷ [])) m mixes
      ≡ mixes_after (answer fx second v (serve_all fx second vs m)) (mixes_in fx second vs m mixes)
  unfolding mixes_in serve_all
  mixes_more [] m mixes = refl
  mixes_more (w ∷ ws) m mixes = mixes_more ws (serve fx second w m) (mixes_after (answer fx second w m) mixes)

  pub refusals_more : (vs : List ℕ) (m : Memory)
      → refusals_in fx second (vs ++ (v ∷ [])) m
      ≡ refusals_in fx second vs m ++ noted v (number_of (answer fx second v (serve_all fx second vs m))) []
  unfolding refusals_in serve_all
  refusals_more [] m = refl
  refusals_more (w ∷ ws) m =
      let n = number_of (answer fx second w m) in
      ap (noted w n) (refusals_more ws (serve fx second w m)) ∙ noted_more w n (refusals_in fx second ws (serve fx second w m)) _

  pub turns_more : (vs : List ℕ) (m : Memory) → Turns fx second vs m → Turn fx second v (serve_all fx second vs m)
      → Turns fx second (vs ++ (v ∷ [])) m
  unfolding Turns serve_all
  turns_more [] m t last = (last, tt)
  turns_more (w ∷ ws) m t last = (t.0, turns_more ws (serve fx second w m) t.1 last)

-- so many voices are refused at the most
pub refusals_few : (fx : Fixed) (second : Bool) (vs : List ℕ) (m : Memory) → length (refusals_in fx second vs m) ≤ length vs
unfolding refusals_in
refusals_few fx second [] m = omega arith
refusals_few fx second (w ∷ ws) m =
    omega (
      arith,
      noted_one w (number_of (answer fx second w m)) (refusals_in fx second ws (serve fx second w m)),
      refusals_few fx second ws (serve fx second w m),
    )

pub up_long : (n : ℕ) → length (up_to n) ≡ n
unfolding up_to
up_long zero = refl
up_long (suc n) = length-append (up_to n) (n ∷ []) ∙ omega (arith, up_long n)
