-- `dequeue::prepare` meets its contract: where an entry is decodable it fits the lane, and its bytes are all there. Assumes nothing.
use mathlib.Core.Path.{sym, ap, ◌∙◌}
use Rattle.std.proofs.Common.{rules, ◌≡◌, ◌*◌, length, true, ℕ}
use Rattle.std.proofs.lemmas.List.{length-take-le}
use Rattle.lists.proofs.Bools.{cond_yes}
use Rattle.adpcm.specs.Code.{frames_of}
use Rattle.adpcm.specs.Sizes.{frame_bytes}
use Rattle.dequeue.specs.Dequeue.{adpcm_in, decodable, decoded_voice, prepared_voice, prepared_lane}
use Rattle.dequeue.proofs.Laws.{decodable_whole, decodable_fits, lane_cut}
use Rattle.dequeue.proofs.prepare.Goals as goal

pub slice_bounds-decode-end : goal.slice_bounds-decode-end
slice_bounds-decode-end c =
    let w = c.args.window in
    let d : decodable w.bytes.now w.base c.args.e ≡ true = search rules in
    decodable_fits w.bytes.now w.base c.args.e (length c.args.lane.now) c.requires.entry_fits d

pub slice_bounds-decode-end-2 : goal.slice_bounds-decode-end-2
slice_bounds-decode-end-2 c =
    let w = c.args.window in
    let d : decodable w.bytes.now w.base c.args.e ≡ true = search rules in
    sym (length-take-le c.args.e.length c.args.lane.now
    (decodable_fits w.bytes.now w.base c.args.e (length c.args.lane.now) c.requires.entry_fits d))

pub decode-requires-clause-bytes_len : goal.decode-requires-clause-bytes_len
decode-requires-clause-bytes_len c =
    let w = c.args.window in
    let d : decodable w.bytes.now w.base c.args.e ≡ true = search rules in
    let fits = decodable_fits w.bytes.now w.base c.args.e (length c.args.lane.now) c.requires.entry_fits d in
    let whole = decodable_whole w.bytes.now w.base c.args.e d in
    let all : length c.physical-bytes.result.now ≡ frames_of c.args.e.length * frame_bytes = search (rules, whole) in
    all ∙ ap (λ (n : ℕ). frames_of n * frame_bytes) (sym (length-take-le c.args.e.length c.args.lane.now fits))

pub returns-clause-record : goal.returns-clause-record
unfolding prepared_voice
returns-clause-record c =
    let w = c.args.window in
    let d : decodable w.bytes.now w.base c.args.e ≡ true = search rules in
    let fits = decodable_fits w.bytes.now w.base c.args.e (length c.args.lane.now) c.requires.entry_fits d in
    let bytes : c.physical-bytes.result.now ≡ adpcm_in w.bytes.now w.base c.args.e = search rules in
    c.decode.ensures.«record» ∙ (λ i. decoded_voice (bytes i) (length-take-le c.args.e.length c.args.lane.now fits i) c.args.v)
    ∙ sym (cond_yes _ _ d)

pub returns-clause-lane : goal.returns-clause-lane
unfolding prepared_lane
returns-clause-lane c =
    let w = c.args.window in
    let d : decodable w.bytes.now w.base c.args.e ≡ true = search rules in
    let fits = decodable_fits w.bytes.now w.base c.args.e (length c.args.lane.now) c.requires.entry_fits d in
    search (rules, lane_cut)
