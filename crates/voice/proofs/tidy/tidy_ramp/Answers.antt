-- `voice::tidy::tidy_ramp` meets its contract: the loop fills the ramps from the front. Assumes nothing.
use Rattle.std.proofs.Common.{◌≡◌, ◌<◌, ◌/◌, false, cond, length, get_or, sym, ap, ◌∙◌, arith, rules}
use lib.Ieee.{nan}
use Rattle.lists.proofs.Fill.{filling_more, filling_next, filling_all}
use Rattle.lists.proofs.Walk.{get_d_any}
use Rattle.numbers.proofs.Literals.{zero_32}
use Rattle.voice.specs.Blank.{blank_gain}
use Rattle.voice.specs.Tidy.{tidy_gain, tidy_ramp}
use Rattle.voice.proofs.Tidied.{length_ramp, ramp_at}
use Rattle.voice.proofs.tidy.tidy_ramp.Goals as goal

pub loop-k-preserved : goal.loop-k-preserved
loop-k-preserved c =
    let l = c.loop-k in
    let m = c.args.marks in
    let r = c.args.ramp.now in
    let on = get_or m (l.k / 4) false in
    let long : length c.args.ramp.now ≡ 12 = search rules in
    let same = length_ramp m r ∙ sym long in
    let h : l.k < 12 = omega arith in
    let within : l.k < length r = omega arith in
    filling_more (tidy_ramp m r) r l.ramp l.k _ blank_gain same within l.invariant
    (c.kept_if.ensures
    ∙ ap (cond on (get_or l.ramp l.k nan)) zero_32
    ∙ ap (tidy_gain on) (filling_next (tidy_ramp m r) r l.ramp l.k nan same l.invariant ∙ get_d_any r l.k nan blank_gain within)
    ∙ sym (ramp_at m r l.k blank_gain h))

pub returns : goal.returns
returns c =
    let r = c.args.ramp.now in
    let long : length c.args.ramp.now ≡ 12 = search rules in
    filling_all (tidy_ramp c.args.marks r) r c.loop-k.ramp c.loop-k.k (length_ramp c.args.marks r ∙ sym long) (omega arith)
    c.loop-k.invariant
