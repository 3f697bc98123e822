-- `stretches::source::Ready::run` meets its contract: each step takes one sample. Assumes nothing.
use Rattle.std.proofs.Common.{◌≡◌, ℕ, true, ◌+◌, ◌-◌, ◌≤◌, ◌<◌, sym, ◌∙◌, subst, rules, arith}
use mathlib.Core.Logic.{⊎_elim}
use lib.Ieee.{Float, eq}
use Rattle.lists.proofs.Walk.{below_or}
use Rattle.numbers.specs.Literals.{+0, +1}
use Rattle.steps.specs.declared.step.Cursor.{Cursor}
use Rattle.steps.specs.declared.stretch.Reached.{Reached}
use Rattle.steps.specs.Stretch.{Stretched}
use Rattle.steps.proofs.Whole.{after_remaining}
use Rattle.stretches.specs.Stored.{run_at, sound_after}
use Rattle.stretches.proofs.Noting.{run_sound}
use Rattle.stretches.proofs.Playing.{plays_on}
use Rattle.stretches.proofs.source.Ready.run.Goals as goal

-- no more samples are made than remain
count_less : (c : Cursor) (room : ℕ) (r : Reached) → Stretched +1 c room r → eq c.fraction +0 ≡ true → r.count ≤ c.remaining
count_less c room r s zero =
    ⊎_elim
    (λ l. absurd (omega (arith, s.inside c.remaining (omega arith), after_remaining c.remaining c zero (omega arith))))
    (λ l. l) (below_or c.remaining r.count)

pub store-requires-clause-callable : goal.store-requires-clause-callable
store-requires-clause-callable c =
    let s = c.args.self.source in
    let p = c.args.self.player in
    let less = count_less p.cursor _ _ c.reach-reached.ensures c.requires.on_a_sample in
    λ i lt.
    let inside : p.track.length - p.cursor.remaining + i < s.played.length =
    omega (arith, less, c.args.self.at_hand.whole, p.remains, lt) in
    search rules

pub returns : goal.returns
returns c =
    let s = c.args.self.source in
    let p = c.args.self.player in
    let less = count_less p.cursor _ _ c.reach-reached.ensures c.requires.on_a_sample in
    let far = subst (λ (rate : Float). Stretched rate p.cursor (160 - c.args.output) c.reach-reached.result) (sym c.requires.rate)
    c.reach-reached.ensures in
    plays_on c.args.self c.args.output c.args.frame.now _ c.reach-reached.result far
    (c.store.ensures (sound_after s.lane.now s.bytes.now s.played p.track p.cursor)
    (λ i lt r q.
    let here : r ≡ run_at s.lane.now s.bytes.now s.played (p.track.length - p.cursor.remaining) i = search rules in
    here
    ∙ run_sound s.lane.now s.bytes.now s.played p.track p.cursor c.requires.rate c.requires.on_a_sample p.remains i
    (omega (arith, less, lt))))
