-- `voice::tidy::tidy_queue` meets its contract: the loop tidies the queued entries from the front, and a fill leaves blank ones behind
-- them. Assumes nothing.
use Rattle.std.proofs.Common.{◌≡◌, ◌-◌, ◌<◌, ◌++◌, length, map, take, get_or, set, min, replicate, ap, ◌∙◌, arith, rules}
use Rattle.std.proofs.lemmas.List.Edits.{map_over_more}
use Rattle.std.proofs.lemmas.List.{take_all, drop_all, append-nil}
use Rattle.lists.proofs.Walk.{get_d_any}
use Rattle.voice.specs.Blank.{places, blank_entry}
use Rattle.voice.specs.Tidy.{tidy_entry}
use Rattle.voice.proofs.Tidied.{queue_parts}
use Rattle.voice.proofs.tidy.tidy_queue.Goals as goal

pub loop-e-preserved : goal.loop-e-preserved
unfolding blank_entry
loop-e-preserved c =
    let l = c.loop-e in
    let e = get_or l.kept l.e-index blank_entry in
    let within : l.e-index < length l.kept = omega (arith, c.loop-e-test.true) in
    ap (λ new. set l.kept l.e-index new) c.tidy_entry.ensures
    ∙ map_over_more tidy_entry c.split_at_mut-kept.result.0.now l.kept l.e-index e c.loop-e-test.true l.invariant
    (get_d_any l.kept l.e-index blank_entry e within)

pub returns : goal.returns
unfolding blank_entry
returns c =
    let l = c.loop-e in
    let q = c.args.queue.now in
    let m = c.min.result in
    let parts = c.split_at_mut-kept in
    let front = parts.result.0.now in
    let long : length q ≡ places = search rules in
    let least : m ≡ min c.args.queued places = search rules in
    let blank : c.default.result ≡ blank_entry = search rules in
    let rest : length parts.result.1.now ≡ places - m = omega (arith, parts.ensures.back_len) in
    let kept : l.kept ≡ map tidy_entry (take m q) =
    l.invariant
    ∙ (λ j. map tidy_entry (take_all l.e-index front c.loop-e-test.false j) ++ drop_all l.e-index front c.loop-e-test.false j)
    ∙ append-nil (map tidy_entry front) ∙ ap (map tidy_entry) parts.ensures.front in
    let free : c.fill.new.self ≡ replicate (places - m) blank_entry =
    c.fill.ensures.after (λ y e. e) ∙ (λ j. replicate (rest j) (blank j)) in
    (λ j. kept j ++ free j) ∙ queue_parts c.args.queued m q long least
