-- `steps::stretch::Course::steady` meets its contract: a turn is one step, by the laws of Steady and Walk, and takes no
-- more than the whole part of the rate and one. Assumes nothing.
use mathlib.Core.Path.{◌≡◌, sym, ap, ◌∙◌}
use mathlib.Core.Bool.{true, cond}
use Prim.Native.Nat.{ℕ, suc, ◌+◌, ◌-◌, ◌*◌, ◌≤◌, ◌<◌}
use native.Mathlib.Nat.{suc-mul}
use native.Mathlib.Omega.{arith}
use lib.IntN.{pos}
use lib.Ieee.{Float, binary64, add, sub, lt, of_bits}
use Rattle.numbers.specs.Held.{at_least_0}
use Rattle.numbers.specs.Casts.{cast_u32, double}
use Rattle.numbers.specs.Literals.{+0, +1}
use Rattle.numbers.proofs.Literals.{one_64}
use Rattle.steps.specs.Steady.{Part, Slow}
use Rattle.steps.proofs.Steady.{Steps, stepped}
use Rattle.steps.proofs.Walk.{turn, begun}
use Rattle.steps.proofs.stretch.Course.steady.Goals as goal

-- 1.0 as the code has it
abbrev one_bits : Float
one_bits = of_bits binary64 0x3ff0_0000_0000_0000

-- the step, by its two tests
steps : (f r whole one : Float) → Part f → Slow r → whole ≡ double (pos (cast_u32 r))
    → one ≡ cond (lt (add binary64 f r) (add binary64 whole one_bits)) +0 +1
    → lt (sub binary64 (add binary64 f r) (add binary64 whole one)) one_bits ≡ true
    → Steps f r (add binary64 whole one)
steps f r whole one F R h o t =
    stepped f r whole one F R h (o ∙ ap (λ (y : Float). cond (lt (add binary64 f r) (add binary64 whole y)) +0 +1) one_64)
    (ap (λ (y : Float). lt (sub binary64 (add binary64 f r) (add binary64 whole one)) y) (sym one_64) ∙ t)

-- one step more leaves room for one less
fewer : (room k S : ℕ) → k < room → (room - k) * S ≡ (room - (k + 1)) * S + S
fewer room k S h =
    let e : room - k ≡ suc (room - (k + 1)) = omega arith in
    ap (λ (n : ℕ). n * S) e ∙ suc-mul (room - (k + 1)) S

-- after a step of n samples, at most the whole part w of the rate and one, two are left still, and one more for each step that is to come
far : (size at n room k w : ℕ) → at + (room - k) * (w + 1) + 1 < size → k < room → n ≤ w + 1
    → at + n + (room - (k + 1)) * (w + 1) + 1 < size
far size at n room k w i h m = omega (arith, fewer room k (w + 1) h)

pub loop-k-init : goal.loop-k-init
loop-k-init c =
    let a = c.args in
    let s = a.self in
    let all : s.room - 0 ≡ s.room = omega arith in (
      begun s.rate s.start s.size a.places.now a.fractions.now s.room s.two_left s.start_in_entry c.told-places c.told-fractions,
      c.requires.part,
      omega (arith, c.requires.two_left_after, s.start_in_entry, ap (λ (n : ℕ). n * (cast_u32 s.rate + 1)) all),
    )

pub counted-at-requires : goal.counted-at-requires
counted-at-requires c =
    let s = steps c.loop-k.fraction c.args.self.rate _ _ c.loop-k.invariant.1 c.requires.slow c.whole_u32-whole.ensures c.one_from.ensures
    c.if-not-left.false in
    s.is ∙ ap (λ (n : ℕ). double (pos n)) (sym s.count)

pub loop-k-preserved : goal.loop-k-preserved
loop-k-preserved c =
    let a = c.args.self in
    let l = c.loop-k in
    let n = c.counted-at in
    let s = steps l.fraction a.rate _ _ l.invariant.1 c.requires.slow c.whole_u32-whole.ensures c.one_from.ensures c.if-not-left.false in
    let i : n.result ≡ cast_u32 (add binary64 l.fraction a.rate) = n.ensures.value ∙ s.count in
    let f = far a.size l.at n.result a.room l.k (cast_u32 a.rate) l.invariant.2 c.loop-k-test.true (omega (arith, i, s.most)) in (
      turn a.rate _ a.size l.places l.fractions a.room l.at l.fraction l.k l.invariant.0 (omega arith) (omega arith) n.result _ i
          (sym s.kept ∙ ap (λ (w : Float). at_least_0 (sub binary64 (add binary64 l.fraction a.rate) w)) s.is)
          (omega (arith, f)),
      s.part,
      f,
    )
