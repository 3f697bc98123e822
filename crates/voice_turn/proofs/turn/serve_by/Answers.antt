-- `voice_turn::turn::serve_by` meets its contract: the region that is chosen is read, so what the frame answered by the two regions in the
-- order of their use is what the voice is answered by regions 0 and 1. Assumes nothing.
use lib.ListN.{length}
use Rattle.voice_turn.specs.Turn.{answer_to, record_by, region0_by, region1_by, lanes_by, mixes_by}
use Rattle.voice_turn.proofs.Rooms.{room0, room1}
use Rattle.voice_turn.proofs.turn.serve_by.Goals as goal

pub serve_in-requires-clause-room : goal.serve_in-requires-clause-room
serve_in-requires-clause-room c =
    let a = c.args in
    let room = room0 a.fixed (length a.region0.now) (length a.region1.now) (length a.window.now) in
    room (length a.lanes.now) 1920 c.requires.fitting a.i.number a.i.is_voice

pub serve_in-requires-in-One-clause-room : goal.serve_in-requires-in-One-clause-room
serve_in-requires-in-One-clause-room c =
    let a = c.args in
    let room = room1 a.fixed (length a.region0.now) (length a.region1.now) (length a.window.now) in
    room (length a.lanes.now) 1920 c.requires.fitting a.i.number a.i.is_voice

pub returns-in-Zero : goal.returns-in-Zero
unfolding record_by region0_by region1_by lanes_by mixes_by
returns-in-Zero c =
    let e = c.serve_in.ensures in
    rw c.in-Zero.is
    (record {
      number = e.number;
      «record» = e.«record»;
      region0 = e.read;
      region1 = e.other;
      lanes = e.lanes;
      mixes = e.mixes;
      long = e.long;
    })

pub returns-in-One : goal.returns-in-One
unfolding answer_to record_by region0_by region1_by lanes_by mixes_by
returns-in-One c =
    let e = c.serve_in-in-One.ensures in
    rw c.in-One.is
    (record {
      number = e.number;
      «record» = e.«record»;
      region0 = e.other;
      region1 = e.read;
      lanes = e.lanes;
      mixes = e.mixes;
      long = e.long;
    })
