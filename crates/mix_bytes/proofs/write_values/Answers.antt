-- `mix_bytes::write_values` meets its contract: a turn splices one value's bytes in. Assumes nothing.
use Rattle.std.proofs.Common.{ap, ◌∙◌, arith}
use Rattle.lists.proofs.Chunks.{chunked_none, chunked_called}
use Rattle.mix_bytes.proofs.write_values.Goals as goal

pub loop-i-init : goal.loop-i-init
loop-i-init g c = chunked_none _ _ _ _ _

pub loop-i-preserved : goal.loop-i-preserved
loop-i-preserved g c =
    let value = c.index-values-i in
    chunked_called g.T.Stored.bytes_of g.row.N g.met.T.Stored.wide c.args.values.now c.args.bytes.now c.loop-i.bytes c.loop-i.i c.put.new.s
    c.stored.result value.result
    (omega arith) c.loop-i-test.true c.loop-i.invariant c.put.ensures (c.stored.ensures ∙ ap g.T.Stored.bytes_of value.is)
