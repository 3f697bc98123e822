-- `mix_voice::channel::Channel::add_parts` meets its contract: after i turns the first i values of the channel have their parts added.
-- Assumes nothing.
use mathlib.Core.Path.{◌≡◌, ◌∙◌, subst}
use Prim.Native.Nat.{ℕ, ◌+◌, ◌*◌, ◌%◌}
use native.Mathlib.Omega.{arith}
use lib.IntN.{ℤ, pos, ◌+ℤ◌}
use lib.Ieee.{nan}
use lib.ListN.{get_or}
use mir.Syntax.{w16, w32}
use mir.Val.{SFits}
use mir.Facts.{to_z-of_z}
use borrow.Author.Rules.{rules}
use Rattle.numbers.specs.Wrap.{wrap32}
use Rattle.numbers.proofs.Bounds.{result_read}
use Rattle.mix_voice.specs.Mixed.{Summed}
use Rattle.mix_voice.proofs.Runs.{no_sums, more_sums, one_sum}
use Rattle.mix_voice.proofs.channel.Channel.add_parts.Goals as goal

pub loop-i-init : goal.loop-i-init
loop-i-init g c = λ parts h. no_sums parts (c.args.self.number * 160) (c.args.self.number * 160 + 0) c.args.mixes.now (omega arith)

pub loop-i-preserved : goal.loop-i-preserved
loop-i-preserved g c =
    let l = c.loop-i in
    let channel = c.args.self in
    let first = channel.number * 160 in
    let s = get_or channel.floats.now l.i nan in
    let x : SFits w16 (get_or channel.frame.now (l.i * 2 + channel.number % 2) (pos 0)) = search rules in
    let y : SFits w32 (get_or l.mixes (first + l.i) (pos 0)) = search rules in
    let n : SFits w32 c.part.result = record { sfits = c.part.type_inv } in
    let sum = c.add_wrapped-sum in
    λ parts h.
    let p : c.part.result ≡ parts (first + l.i) =
    h l.i c.loop-i-test.true c.part.result
    (subst (λ (v : ℤ). goal.F-post g c.args.part l.i v s c.part.result) (to_z-of_z x) c.part.ensures) in
    let done = l.invariant parts h in
    more_sums parts first (first + l.i) (first + (l.i + 1)) c.args.mixes.now l.mixes _ (omega arith) (omega arith) done
    (one_sum parts (first + l.i) (first + (l.i + 1)) _ l.mixes (omega arith) (omega (arith, done.same))
    (result_read w32 sum.result sum.type_inv ∙ sum.ensures ∙ (λ j. wrap32 (to_z-of_z y j +ℤ (to_z-of_z n ∙ p) j))))

pub returns : goal.returns
returns g c =
    let l = c.loop-i in
    let first = c.args.self.number * 160 in
    let all : l.i ≡ 160 = omega arith in
    λ parts h. subst (λ (i : ℕ). Summed parts first (first + i) c.args.mixes.now l.mixes) all (l.invariant parts h)
