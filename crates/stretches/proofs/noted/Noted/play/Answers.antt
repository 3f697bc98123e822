-- `stretches::noted::Noted::play` meets its contract, by whether samples are taken as they are, and by the channels. Assumes nothing.
use Rattle.std.proofs.Common.{◌≡◌, length, sym, ◌∙◌, rules, arith}
use Rattle.lists.proofs.Bools.{or_neither}
use Rattle.stretches.specs.Stored.{here_at, blended_at, noted_at}
use Rattle.stretches.proofs.Storing.{stored_same}
use Rattle.stretches.proofs.Noting.{noted_plain, noted_blended, plain_each}
use Rattle.stretches.proofs.noted.Noted.play.Goals as goal

pub returns-then-is_plain : goal.returns-then-is_plain
returns-then-is_plain c =
    let n = c.args.self.now in
    let s = n.source in
    let plain = sym c.is_plain.ensures ∙ c.if-is_plain.true in
    c.store.ensures (noted_at s.lane.now s.bytes.now s.played n.track n.places.now n.fractions.now)
    (λ i lt r p.
    let here : r ≡ here_at s.lane.now s.bytes.now s.played n.places.now i = search rules in
    here
    ∙ noted_plain s.lane.now s.bytes.now s.played n.track n.places.now n.fractions.now i
    (plain_each n.track.plain n.fractions.now (length n.fractions.now) plain i (omega (arith, lt, n.one_for_each))))

pub returns-then-is_mono : goal.returns-then-is_mono
returns-then-is_mono c =
    let n = c.args.self.now in
    let s = n.source in
    let plain = sym c.is_plain.ensures ∙ c.if-is_plain.false in
    c.play_mono.ensures
    ∙ stored_same (blended_at s.lane.now s.bytes.now s.played n.places.now n.fractions.now) c.args.output c.args.frame.now
    (noted_at s.lane.now s.bytes.now s.played n.track n.places.now n.fractions.now) (length n.places.now)
    (λ i lt. noted_blended s.lane.now s.bytes.now s.played n.track n.places.now n.fractions.now i (or_neither _ _ plain).0)

pub returns-else-is_mono : goal.returns-else-is_mono
returns-else-is_mono c =
    let n = c.args.self.now in
    let s = n.source in
    let plain = sym c.is_plain.ensures ∙ c.if-is_plain.false in
    c.store-else-is_mono.ensures (noted_at s.lane.now s.bytes.now s.played n.track n.places.now n.fractions.now)
    (λ i lt r p.
    let between : r ≡ blended_at s.lane.now s.bytes.now s.played n.places.now n.fractions.now i = search rules in
    between
    ∙ noted_blended s.lane.now s.bytes.now s.played n.track n.places.now n.fractions.now i (or_neither _ _ plain).0)
