-- The cast of a whole f64 to 32 bits gives that number. Assumes nothing.
use Rattle.std.proofs.Common.{w32}
use lib.Ieee.{to_signed}
use lib.Ieee.Casts.{to_signed_in}
use Rattle.numbers.proofs.Bounds.{result_read}
use Rattle.numbers.proofs.real.F64Real.to_i32.Goals as goal

pub returns : goal.returns
returns c = result_read w32 (to_signed 31 c.args.self) (to_signed_in 31 c.args.self)
