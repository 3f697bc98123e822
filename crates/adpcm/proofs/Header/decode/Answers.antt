-- `adpcm::Header::decode` meets its contract: after i turns the samples of i bytes stand, two for each. Assumes nothing.
use mathlib.Core.Path.{◌≡◌, refl, ◌∙◌}
use Prim.Native.Nat.{◌+◌, ◌*◌, ◌/◌, ◌<◌}
use native.Mathlib.Omega.{arith}
use lib.ListN.{length, set}
use mir.Syntax.{w16}
use mir.Val.{of_z, to_z}
use borrow.Author.Rules.{rules}
use Rattle.numbers.proofs.Bounds.{result_read}
use Rattle.adpcm.proofs.Runs.{turn_first, turn_second, finish_frame}
use Rattle.adpcm.proofs.Header.decode.Goals as goal

pub loop-i-preserved : goal.loop-i-preserved
loop-i-preserved c =
    let l = c.loop-i in
    let s = c.args.self in
    let frame = c.args.frame.now in
    let eight : length frame ≡ 8 = search rules in
    let more : l.i * 2 + 1 < length c.args.samples.now = omega arith in
    let y = c.sample in
    let z = c.sample-in-loop-i in
    let y₁ = to_z w16 (of_z w16 y.result) in
    let one = turn_first c.args.history.now s.exponent s.c1 s.c2 frame c.args.samples.now eight c.requires l.samples l.history l.i
    l.i c.first.result.bits y₁ y.new.history refl (omega arith) l.invariant c.first.ensures
    (record { sample = result_read w16 y.result y.type_inv ∙ y.ensures.sample; history = y.ensures.history }) in
    turn_second c.args.history.now s.exponent s.c1 s.c2 frame c.args.samples.now eight c.requires
    (set l.samples (l.i * 2) y₁) y.new.history l.i c.second.result.bits (to_z w16 (of_z w16 z.result)) z.new.history more one
    c.second.ensures (record { sample = result_read w16 z.result z.type_inv ∙ z.ensures.sample; history = z.ensures.history })

pub returns-then-samples-eq1 : goal.returns-then-samples-eq1
returns-then-samples-eq1 c =
    let l = c.loop-i in
    let s = c.args.self in
    let frame = c.args.frame.now in
    let old = c.args.samples.now in
    let eight : length frame ≡ 8 = search rules in
    let b = c.first-then-samples-eq1 in
    let y = c.sample-then-samples-eq1 in
    let k = length old / 2 in
    let one = turn_first c.args.history.now s.exponent s.c1 s.c2 frame old eight c.requires l.samples l.history l.i k b.result.bits
    (to_z w16 (of_z w16 y.result)) y.new.history (omega arith) (omega arith) l.invariant b.ensures
    (record { sample = result_read w16 y.result y.type_inv ∙ y.ensures.sample; history = y.ensures.history }) in
    let f = finish_frame c.args.history.now s.exponent s.c1 s.c2 frame old eight c.requires _ y.new.history (k * 2 + 1)
    (omega arith) one in
    record { samples = f.0; history = f.1 }

pub returns-else-samples-eq1 : goal.returns-else-samples-eq1
returns-else-samples-eq1 c =
    let l = c.loop-i in
    let s = c.args.self in
    let frame = c.args.frame.now in
    let eight : length frame ≡ 8 = search rules in
    let f = finish_frame c.args.history.now s.exponent s.c1 s.c2 frame c.args.samples.now eight c.requires l.samples l.history (l.i * 2)
    (omega arith) l.invariant in
    record { samples = f.0; history = f.1 }
