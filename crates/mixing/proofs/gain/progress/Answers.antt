-- `mixing::gain::progress` meets its contract: the code's 159.0 is that number. Assumes nothing.
use mathlib.Core.Path.{◌≡◌, refl, ap}
use lib.IntN.{pos}
use lib.Ieee.{Float, binary32, of_bits, of_int, div}
use Rattle.numbers.specs.Casts.{single}
use Rattle.mixing.proofs.gain.progress.Goals as goal

last_is : of_bits binary32 0x431f_0000 ≡ single (pos 159)
unfolding of_bits of_int
last_is = refl

pub returns : goal.returns
returns c = ap (λ (x : Float). div binary32 (single (pos c.args.i)) x) last_is
