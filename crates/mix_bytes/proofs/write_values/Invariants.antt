-- `mix_bytes::write_values` meets its contract: a turn splices one value's bytes in. Assumes nothing.
use Rattle.lists.proofs.Chunks.{Chunked}
use Rattle.mix_bytes.proofs.write_values.Given as goal

abbrev pub invariant-loop-i : goal.invariant-loop-i
invariant-loop-i g l = Chunked g.T.Stored.bytes_of g.row.N g.met.T.Stored.wide l.values l.initial.bytes l.bytes l.i
