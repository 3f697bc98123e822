-- `stretches::store::store` meets its contract: a turn stores one sample more. Assumes nothing.
use Rattle.std.proofs.Common.{◌≡◌, ℕ, ◌<◌}
use Rattle.samples.specs.declared.Sample.{Sample}
use Rattle.stretches.specs.Stored.{stored}
use Rattle.stretches.proofs.store.store.Given as goal

abbrev pub invariant-loop-i : goal.invariant-loop-i
invariant-loop-i g l =
    (given : ℕ → Sample) → ((i : ℕ) → i < l.count → (s : Sample) → goal.F-post g l.sound i s → s ≡ given i)
    → l.frame ≡ stored given l.output l.i l.initial.frame
