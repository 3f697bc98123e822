-- `downmix::mix_in` meets its contract: after i turns the first i pairs are the goal's, the others as they were. Assumes nothing.
use mathlib.Core.Path.{◌≡◌, sym, ap, ◌∙◌, subst}
use mathlib.Core.List.{List}
use Prim.Native.Nat.{ℕ, ◌+◌, ◌*◌, ◌<◌}
use native.Mathlib.Omega.{arith}
use lib.Ieee.{Float}
use lib.IntN.{ℤ, pos}
use lib.ListN.{length, get_or, set}
use mir.Syntax.{w16}
use mir.Val.{SFits, to_z, of_z}
use mir.Facts.{to_z-of_z}
use borrow.Author.Rules.{rules}
use Rattle.lists.proofs.Fill.{Filling, filling_more, filling_next, filling_all}
use Rattle.lists.proofs.Tabulate.{length_tabulate, get_d_tabulate}
use Rattle.numbers.proofs.Bounds.{result_read}
use Rattle.downmix.specs.Downmix.{added, part_at, mixed_in}
use Rattle.mixer_state.specs.declared.Output.{Output}
use Rattle.downmix.proofs.mix_in.Goals as goal

module _ (o : Output) (v : Float) (mix old : List ℤ) (long : length old ≡ 320) where
  goal_long : length (mixed_in o v mix old) ≡ length old
  unfolding mixed_in
  goal_long = length_tabulate (λ k. added (get_or old k (pos 0)) (part_at o v mix k)) 320 ∙ sym long

  goal_at : (k : ℕ) → k < 320 → get_or (mixed_in o v mix old) k (pos 0) ≡ added (get_or old k (pos 0)) (part_at o v mix k)
  unfolding mixed_in
  goal_at k h = get_d_tabulate (λ k. added (get_or old k (pos 0)) (part_at o v mix k)) 320 k (pos 0) h

  -- one value stored
  store :
      (now : List ℤ) (k : ℕ) (x : ℤ) → k < 320 → Filling (mixed_in o v mix old) old now k
      → x ≡ added (get_or now k (pos 0)) (part_at o v mix k)
      → Filling (mixed_in o v mix old) old (set now k x) (k + 1)
  store now k x h f e =
      filling_more (mixed_in o v mix old) old now k x (pos 0) goal_long (omega arith) f
      (e
      ∙ ap (λ (z : ℤ). added z (part_at o v mix k)) (filling_next (mixed_in o v mix old) old now k (pos 0) goal_long f)
      ∙ sym (goal_at k h))

  -- a turn stores a pair
  turn : (now : List ℤ) (i : ℕ) (x y : ℤ) → i < 160 → Filling (mixed_in o v mix old) old now (i * 2)
      → x ≡ added (get_or now (i * 2) (pos 0)) (part_at o v mix (i * 2))
      → y ≡ added (get_or (set now (i * 2) x) (i * 2 + 1) (pos 0)) (part_at o v mix (i * 2 + 1))
      → Filling (mixed_in o v mix old) old (set (set now (i * 2) x) (i * 2 + 1) y) ((i + 1) * 2)
  turn now i x y h f p q =
      subst (λ (n : ℕ). Filling (mixed_in o v mix old) old (set (set now (i * 2) x) (i * 2 + 1) y) n) two
      (store (set now (i * 2) x) (i * 2 + 1) y (omega arith) (store now (i * 2) x (omega arith) f p) q)
    where
      two : i * 2 + 1 + 1 ≡ (i + 1) * 2
      two = omega arith

-- a 16-bit number as the code stores it
abbrev read : ℤ → ℤ
read z = to_z w16 (of_z w16 z)

pub loop-i-preserved : goal.loop-i-preserved
loop-i-preserved c =
    let l = c.loop-i in
    let k = l.i * 2 in
    let one = c.added in
    let two = c.added-in-loop-i in
    let s = c.parts_of-part in
    let x = read one.result in
    let y = read two.result in
    let left : SFits w16 s.result.left = search rules in
    let right : SFits w16 s.result.right = search rules in
    let was : SFits w16 (get_or l.frame k (pos 0)) = search rules in
    let next : SFits w16 (get_or (set l.frame k x) (k + 1) (pos 0)) = search rules in
    turn c.args.output c.args.volume c.args.mix.now c.args.frame.now c.told-frame l.frame l.i x y c.loop-i-test.true l.invariant
    (result_read w16 one.result one.type_inv ∙ one.ensures ∙ (λ j. added (to_z-of_z was j) ((to_z-of_z left ∙ s.ensures.left) j)))
    (result_read w16 two.result two.type_inv ∙ two.ensures ∙ (λ j. added (to_z-of_z next j) ((to_z-of_z right ∙ s.ensures.right) j)))

pub returns : goal.returns
returns c =
    let l = c.loop-i in
    let long = goal_long c.args.output c.args.volume c.args.mix.now c.args.frame.now c.told-frame in
    filling_all _ c.args.frame.now l.frame (l.i * 2) long (omega (arith, c.loop-i-test.false, c.told-frame)) l.invariant
