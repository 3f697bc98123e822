-- `voice_turn::own::serve_in` meets its contract: what is lent to the voice's frame is the voice's own in memory, and what comes back is
-- put where it stood. Assumes nothing.
use mathlib.Core.Path.{sym, ap, ◌∙◌, subst}
use mathlib.Core.Bool.{false}
use Prim.Native.Nat.{ℕ, ◌+◌, ◌-◌, ◌*◌}
use native.Mathlib.Omega.{arith}
use lib.ListN.{length, take, drop}
use Rattle.lists.proofs.Splice.{lent_long}
use Rattle.voice.specs.Malformed.{WellFormed}
use Rattle.voice_frame.specs.VoiceFrame.{Answer, number_of, voice_after, lane_after}
use Rattle.voice_frame.specs.VoiceFrame.{configuration_after, status_after, mixes_after}
use Rattle.stems.specs.Memory.{lane_length}
use Rattle.voice_turn.specs.Turn.{answer_to}
use Rattle.voice_turn.proofs.Back.{answer_is, long, lanes_back, read_back, other_back}
use borrow.Author.Rules.{rules}
use Rattle.voice_turn.proofs.own.serve_in.Goals as goal

pub overflow_mul-from : goal.overflow_mul-from
unfolding lane_length
overflow_mul-from c = search rules

pub overflow_add-from : goal.overflow_add-from
unfolding lane_length
overflow_add-from c = search rules

pub offset_bounds-lanes-from : goal.offset_bounds-lanes-from
unfolding lane_length
offset_bounds-lanes-from c = search rules

pub slice_bounds-serve_parts-end : goal.slice_bounds-serve_parts-end
unfolding lane_length
slice_bounds-serve_parts-end c = search rules

pub serve_parts-requires : goal.serve_parts-requires
unfolding lane_length
serve_parts-requires c =
    let a = c.args in
    let l = a.fixed.layout in
    let room = c.requires.room in
    let L = lane_length (length a.lanes.now) in
    let lane = lent_long (a.i * L) L a.lanes.now room.lane in
    let report = lent_long (l.statuses + 12 * a.i) 12 a.other.now room.status in record {
      well_formed = subst (λ (n : ℕ). WellFormed n a.v) (sym lane) c.requires.well_formed;
      short_lane = omega (arith, lane, room.short);
      whole_configuration = lent_long (l.configurations + 192 * a.i) 192 a.read.now room.configuration;
      whole_status = report;
    }

pub returns : goal.returns
unfolding lane_length
returns c =
    let a = c.args in
    let e = c.serve_parts.ensures in
    let room = c.requires.room in
    let l = a.fixed.layout in
    let L = lane_length (length a.lanes.now) in
    let read = a.read.now in
    let other = a.other.now in
    let lanes = a.lanes.now in
    let answer = answer_to a.fixed false a.i a.v read other a.window.now lanes in
    -- what was lent
    let lane = take (a.i * L + L - a.i * L) (drop (a.i * L) lanes) in
    let bytes = take (l.configurations + 192 * a.i + 192 - (l.configurations + 192 * a.i)) (drop (l.configurations + 192 * a.i) read) in
    let report = take (l.statuses + 12 * a.i + 12 - (l.statuses + 12 * a.i)) (drop (l.statuses + 12 * a.i) other) in
    -- what comes back of it, by what voice i is answered
    let same = answer_is a.fixed a.i a.v read other a.window.now lanes c.part_at.result.now
    c.part_at.ensures in
    let lane_is = e.lane ∙ ap (λ (x : Answer). lane_after x lane) same in
    let bytes_is = e.configuration ∙ ap (λ (x : Answer). configuration_after x bytes) same in
    let report_is = e.status ∙ ap (λ (x : Answer). status_after x report) same in
    let lane_long = c.serve_parts.auto.lane ∙ lent_long (a.i * L) L lanes room.lane in
    let bytes_long = c.serve_parts.auto.bytes ∙ lent_long (l.configurations + 192 * a.i) 192 read room.configuration in
    let report_long = c.serve_parts.auto.report ∙ lent_long (l.statuses + 12 * a.i) 12 other room.status in record {
      number = e.number ∙ ap number_of same;
      «record» = e.«record» ∙ ap (λ (x : Answer). voice_after x a.v) same;
      read = read_back l a.i answer read c.serve_parts.new.bytes room.configuration bytes_is bytes_long;
      other = other_back l a.i answer other c.serve_parts.new.report room.status report_is report_long;
      lanes = lanes_back a.i answer lanes c.serve_parts.new.lane room.lane lane_is lane_long;
      mixes = e.mixes ∙ ap (λ (x : Answer). mixes_after x a.mixes.now) same;
      long = long L answer lane c.serve_parts.new.lane bytes c.serve_parts.new.bytes report c.serve_parts.new.report
          lane_is lane_long bytes_is bytes_long report_is report_long;
    }
