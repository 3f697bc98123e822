-- `stretches::noted::blend` meets its contract: at a fraction of 0 what lies between is the first. Assumes nothing.
use borrow.Author.Rules.{rules}
use mathlib.Core.Path.{◌≡◌, refl, sym, ◌∙◌}
use mathlib.Core.Bool.{Bool, true, false}
use Prim.Native.Nat.{◌<◌}
use lib.Signed.{mag}
use lib.Ieee.{Float, eq}
use Rattle.lists.proofs.Bools.{cond_yes, cond_no}
use Rattle.numbers.specs.Literals.{+0}
use Rattle.mixing.proofs.AtZero.{interpolate_at_zero}
use Rattle.samples.specs.Samples.{stereo_sample}
use Rattle.samples.specs.declared.Sample.{Sample}
use Rattle.track.specs.Track.{between_samples}
use Rattle.stretches.specs.Stored.{blended}
use Rattle.stretches.proofs.noted.blend.Goals as goal

at_zero : (a b : Sample) (fraction : Float) → mag a.left < 32768 → mag a.right < 32768 → mag b.left < 32768
    → mag b.right < 32768
    → eq fraction +0 ≡ true → between_samples a b fraction ≡ a
unfolding between_samples
at_zero a b fraction al ar bl br e =
    let left = interpolate_at_zero a.left b.left fraction al bl e in
    let right = interpolate_at_zero a.right b.right fraction ar br e in
    λ i. stereo_sample (left i) (right i)

same : (a b : Sample) (fraction : Float) → mag a.left < 32768 → mag a.right < 32768 → mag b.left < 32768 → mag b.right < 32768
    → between_samples a b fraction ≡ blended a b fraction
unfolding blended
same a b fraction al ar bl br = by (eq fraction +0) refl
  where
    by : (z : Bool) → eq fraction +0 ≡ z → between_samples a b fraction ≡ blended a b fraction
    by true e = at_zero a b fraction al ar bl br e ∙ sym (cond_yes _ _ e)
    by false e = sym (cond_no _ _ e)

pub returns : goal.returns
returns c =
    let a = c.args.a in
    let b = c.args.b in
    let al : mag a.left < 32768 = search rules in
    let ar : mag a.right < 32768 = search rules in
    let bl : mag b.left < 32768 = search rules in
    let br : mag b.right < 32768 = search rules in
    c.between.ensures ∙ same a b c.args.fraction al ar bl br
