-- `record_reader::formed::accept_record` takes a well-formed record: one that is not malformed. Assumes nothing.
use mathlib.Core.Path.{sym, ◌∙◌}
use Rattle.voice.proofs.Formed.{not_malformed_formed}
use Rattle.record_reader.proofs.formed.accept_record.Goals as goal

pub returns-clause-formed : goal.returns-clause-formed
returns-clause-formed c = not_malformed_formed c.args.lane c.args.v.now (sym c.malformed.ensures ∙ c.if-malformed.false)
