-- `steps::stretch::whole_part` meets its contract. Assumes nothing.
use mathlib.Core.Path.{◌≡◌, sym, ap, ◌∙◌}
use Prim.Native.Nat.{ℕ}
use lib.IntN.{pos}
use lib.Ieee.{Float}
use lib.Ieee.Casts.{to_unsigned-lt}
use Rattle.numbers.specs.Casts.{cast_u32, double}
use Rattle.steps.proofs.Steady.{whole_back}
use Rattle.steps.proofs.stretch.whole_part.Goals as goal

same : (x w : Float) → w ≡ double (pos (cast_u32 x)) → cast_u32 w ≡ cast_u32 x
same x w e =
    ap (λ (y : Float). cast_u32 y) e
    ∙ whole_back (cast_u32 x) (to_unsigned-lt 32 x)

pub counted-requires : goal.counted-requires
counted-requires c = c.whole_u32.ensures ∙ ap (λ (k : ℕ). double (pos k)) (sym (same _ _ c.whole_u32.ensures))

pub returns : goal.returns
returns c = record {
  value = c.counted.ensures.value ∙ same _ _ c.whole_u32.ensures;
  upper_bound = c.counted.ensures.upper_bound;
}
