-- A call that serves one voice and no other is the call for that voice alone: from mixes of 0 what the voice adds is what the mixes hold.
-- By cases of its answer. Assumes nothing.
use mathlib.Core.Path.{◌≡◌, refl, sym, ◌∙◌}
use mathlib.Core.List.{[], ◌∷◌}
use Prim.Native.Nat.{ℕ, zero, suc}
use Rattle.stems.specs.declared.Fixed.{Fixed}
use Rattle.stems.specs.Memory.{Lent}
use Rattle.stems.specs.Call.{second_read, answer, serve_all, mixes_in, refusals_in, alone_number, Outcome, called}
use Rattle.stems.specs.Whole.{refused_of, refusals}
use Rattle.stems.specs.Alone.{leaves_alone, OneServed, OneInTurn}
use Rattle.stems.proofs.Mixes.{mixes_alone}

module _ (fx : Fixed) (v : ℕ) (x : Lent) where
  code_is : (n : ℕ) → (called n fx (v ∷ []) x).code ≡ n
  unfolding called
  code_is zero = refl
  code_is (suc n) = refl

  left_is : (n : ℕ) → (called n fx (v ∷ []) x).left ≡ leaves_alone n fx v x
  unfolding called leaves_alone serve_all mixes_in
  left_is zero = λ i. record {
    memory = serve_all fx (second_read fx.layout x.memory) (v ∷ []) x.memory;
    mixes = mixes_alone (answer fx (second_read fx.layout x.memory) v x.memory) i;
  }
  left_is (suc n) = refl

  refusals_are : (n : ℕ) → (called n fx (v ∷ []) x).refusals ≡ refusals n fx x (v ∷ [])
  unfolding called refusals refusals_in refused_of
  refusals_are zero = refl
  refusals_are (suc n) = refl

pub one_in_turn : OneInTurn
one_in_turn fx v x = record {
  code = code_is fx v x (alone_number fx v x);
  left = left_is fx v x (alone_number fx v x);
  listed = refusals_are fx v x (alone_number fx v x);
}

-- and the call as the contract has it serves v and no other
pub serves_one : (fx : Fixed) (v : ℕ) (x : Lent) (o : Outcome) → OneServed fx v x o → o ≡ called (alone_number fx v x) fx (v ∷ []) x
serves_one fx v x o a =
    let n = alone_number fx v x in
    λ i. record {
      code = (a.code ∙ sym (code_is fx v x n)) i;
      refusals = (a.listed ∙ sym (refusals_are fx v x n)) i;
      left = (a.left ∙ sym (left_is fx v x n)) i;
    }
