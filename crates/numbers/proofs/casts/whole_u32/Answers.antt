-- `numbers::casts::whole_u32` meets its contract. Assumes nothing.
use Rattle.std.proofs.Common.{◌≡◌, ℕ, pos, sym, ap, ◌∙◌, subst}
use lib.Ieee.{Float}
use Rattle.numbers.specs.Casts.{double}
use Rattle.numbers.specs.Held.{Upto, whole_of, top_u32, at_most, at_least_0}
use Rattle.numbers.proofs.Literals.{top_u32_is}
use Rattle.numbers.proofs.Holding.{upto_u32, whole_u32_is}
use Rattle.numbers.proofs.casts.whole_u32.Goals as goal

held_is : (x y z b : Float) → b ≡ top_u32 → y ≡ at_least_0 x → z ≡ at_most b y → z ≡ at_most top_u32 (at_least_0 x)
held_is x y z b e h k = k ∙ (λ i. at_most (e i) (h i))

pub whole-requires : goal.whole-requires
whole-requires c =
    subst (λ (a : Float). Upto 4294967295 a) (sym (held_is c.args.x _ _ _ top_u32_is c.at_least_0.ensures c.at_most.ensures))
    (upto_u32 c.args.x)

pub returns : goal.returns
returns c =
    c.whole.ensures
    ∙ ap (λ (a : Float). double (pos (whole_of a))) (held_is c.args.x _ _ _ top_u32_is c.at_least_0.ensures c.at_most.ensures)
    ∙ ap (λ (k : ℕ). double (pos k)) (whole_u32_is c.args.x)
