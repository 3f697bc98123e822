-- `mix_voice::fade::mix_heard` meets its contract: a channel fades where its mix has a mark and its gain changes. Assumes nothing.
use mathlib.Core.Path.{◌≡◌, sym, subst}
use mathlib.Core.List.{List, [], ◌∷◌}
use Prim.Native.Nat.{ℕ, zero, suc, ◌+◌, ◌*◌, ◌%◌, ◌≤◌, ◌<◌}
use native.Mathlib.Omega.{arith}
use lib.IntN.{ℤ}
use lib.Ieee.{Float}
use lib.ListN.{get_or}
use Rattle.mix_voice.specs.Mixed.{floats_of, ramped, ramped_at, Summed}
use Rattle.mix_voice.proofs.Runs.{no_sums, more_sums, same_sums, all_sums, fades, unmarked, level}
use Rattle.mix_voice.proofs.fade.mix_heard.Goals as goal
use Rattle.mix_voice.proofs.fade.mix_heard.Goals.{then-marks-number+then-from-to, else-marks-number}
use Rattle.mix_voice.proofs.fade.mix_heard.Goals.{else-marks-number-via-then-marks-number+else-from-to}
use Rattle.mix_voice.proofs.fade.mix_heard.Goals.{else-marks-number-via-else-marks-number}

-- the side of a channel
side_is :
    (frame : List ℤ) (left right : List Float) → left ≡ floats_of frame 0 → right ≡ floats_of frame 1 → (n : ℕ) → n < 2
    → get_or (left ∷ right ∷ []) n [] ≡ floats_of frame n
side_is frame left right l r zero h = l
side_is frame left right l r (suc zero) h = r
side_is frame left right l r (suc (suc n)) h = absurd (omega arith)

pub invariant_of-channel-clause-of_its_side : goal.invariant_of-channel-clause-of_its_side
invariant_of-channel-clause-of_its_side c =
    side_is c.args.frame.now _ _ c.floats_of.ensures c.floats_of-2.ensures (c.loop-number.number % 2) (omega arith)

pub loop-number-init : goal.loop-number-init
loop-number-init c = no_sums _ 0 _ c.args.mixes.now (omega arith)

-- a channel more
next :
    (part other : ℕ → ℤ) (c : ℕ) (old mid new end : List ℤ) → Summed part 0 (c * 160) old mid
    → ((k : ℕ) → c * 160 ≤ k → k < c * 160 + 160 → other k ≡ part k) → Summed other (c * 160) (c * 160 + 160) mid new → end ≡ new
    → Summed part 0 ((c + 1) * 160) old end
next part other c old mid new end s e t n =
    let past : c * 160 + 160 ≡ (c + 1) * 160 = omega arith in
    subst (λ (l : List ℤ). Summed part 0 ((c + 1) * 160) old l) (sym n)
    (subst (λ (p : ℕ). Summed part 0 p old new) past
    (more_sums part 0 (c * 160) (c * 160 + 160) old mid new (omega arith) (omega arith) s
    (same_sums part other (c * 160) (c * 160 + 160) mid new e t)))

pub loop-number-preserved : goal.loop-number-preserved
loop-number-preserved c =
    let a = c.args in
    let l = c.loop-number in
    let ch = l.number in
    let frame = a.frame.now in
    let ramp = a.ramp.now in
    let gains = a.gains.now in
    let part = ramped_at a.marks ramp gains frame in
    elim c.if-marks-number.branch [
      | then-marks-number+then-from-to w ↦
          next part _ ch a.mixes.now l.mixes _ _ l.invariant
          (λ k h m. fades a.marks ramp gains frame ch k h m w.if-marks-number.true w.if-from-to.true)
          w.add_fading.ensures w.mixes-is
      | else-marks-number w ↦
          next part _ ch a.mixes.now l.mixes _ _ l.invariant
          (λ k h m. elim w.else-marks-number.branch [
            | else-marks-number-via-then-marks-number+else-from-to v ↦
                level a.marks ramp gains frame ch k h m v.if-marks-number.true v.if-from-to.false
            | else-marks-number-via-else-marks-number v ↦ unmarked a.marks ramp gains frame ch k h m v.if-marks-number.false
          ])
          w.add_steady.ensures w.mixes-is
    ]

pub returns : goal.returns
unfolding ramped
returns c =
    let l = c.loop-number in
    all_sums _ (l.number * 160) c.args.mixes.now l.mixes c.told-mixes (omega arith) l.invariant
