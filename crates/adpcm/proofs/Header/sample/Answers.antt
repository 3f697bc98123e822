-- `adpcm::Header::sample` meets its contract: the sum, read back through the wrap, the shift and the clamp. Assumes nothing.
use mathlib.Core.Path.{◌≡◌, ap, ◌∙◌}
use lib.IntN.{ℤ}
use lib.Signed.{shr_z}
use mir.Syntax.{w16, w32, w64}
use mir.Val.{of_z, to_z}
use Rattle.numbers.proofs.Bounds.{is_read, result_read, shr_read}
use Rattle.numbers.specs.Wrap.{wrap32, clamp16}
use Rattle.adpcm.specs.Code.{code}
use Rattle.adpcm.specs.Adpcm.{sample_of}
use Rattle.adpcm.proofs.Header.sample.Goals as goal

pub returns : goal.returns
unfolding sample_of
returns c =
    let s = c.args.self in
    let h = c.args.history.now in
    let x = code s.exponent s.c1 s.c2 c.args.nibble.bits in
    let y : to_z w16 (of_z w16 c.clamped-sample.result) ≡ sample_of h x =
    result_read w16 c.clamped-sample.result c.clamped-sample.type_inv ∙ c.clamped-sample.ensures
    ∙ ap clamp16 (shr_read w32 c.wrapped.result 2048 c.wrapped.type_inv
    ∙ ap (λ (z : ℤ). shr_z z 2048) (c.wrapped.ensures ∙ ap wrap32 (is_read w64 c.sum.ensures tt).is)) in
    record { sample = y; history = c.push.ensures ∙ (λ i. record { yn1 = y i; yn2 = h.yn1 }) }
