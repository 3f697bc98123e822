-- `mix_bytes::put_values` meets its contract: the part that was lent comes back as the values' bytes, which is a splice. Assumes nothing.
use Rattle.std.proofs.Common.{◌*◌, length}
use mathlib.Core.List.{flat_map}
use Rattle.lists.proofs.Chunks.{length_chunks}
use Rattle.lists.proofs.Splice.{called_is_splice}
use Rattle.mix_bytes.proofs.put_values.Goals as goal

pub returns : goal.returns
returns g c =
    let of = g.T.Stored.bytes_of in
    let values = c.args.values.now in
    called_is_splice c.args.region.now c.write_values.new.bytes (flat_map of values) c.args.at (length values * g.row.N) c.requires
    c.write_values.ensures (length_chunks of g.row.N g.met.T.Stored.wide values)
