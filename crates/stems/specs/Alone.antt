-- What a call for one voice alone leaves: its answer in memory as the call finds it, put where the voice's own lies, and in the mix buffer
-- what the voice adds. Assumes nothing: these are definitions and a statement; `one_in_turn` of proofs/Alone.antt proves it.
use Rattle.std.specs.Prelude.{◌≡◌, ℕ, zero, suc, [], ◌∷◌}
use Rattle.lists.specs.Tabulate.{tabulate}
use Rattle.numbers.specs.Sizes.{MIXES}
use Rattle.numbers.specs.Wrap.{wrap32}
use Rattle.stems.specs.declared.Fixed.{Fixed}
use Rattle.stems.specs.Memory.{Lent}
use Rattle.stems.specs.Call.{second_read, serve, adds, alone_number, Outcome, called}
use Rattle.stems.specs.Whole.{gets, refusals}

-- what a call with this number leaves: with 0 v is served, and "the stem run's mix buffer" holds "what v adds"; with another all is as it
-- was
unfoldable pub leaves_alone : ℕ → Fixed → ℕ → Lent → Lent
leaves_alone zero fx v x = record {
  memory = serve fx (second_read fx.layout x.memory) v x.memory;
  mixes = tabulate (λ i. wrap32 (adds (gets fx x.memory v) i)) MIXES;
}
leaves_alone (suc n) fx v x = x

-- The call for voice v alone, as its contract has it: its number, what it leaves, and v in the list if it is refused.
pub record OneServed (fx : Fixed) (v : ℕ) (x : Lent) (o : Outcome) : Type 0 where
  pub code : o.code ≡ alone_number fx v x
  pub left : o.left ≡ leaves_alone (alone_number fx v x) fx v x
  pub listed : o.refusals ≡ refusals (alone_number fx v x) fx x (v ∷ [])

-- A call that serves v, from mixes of 0, and no other voice is such a call.
abbrev pub OneInTurn : Type 0
OneInTurn = (fx : Fixed) (v : ℕ) (x : Lent) → OneServed fx v x (called (alone_number fx v x) fx (v ∷ []) x)
