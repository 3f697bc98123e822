-- `mix_voice::channel::Channel::add_parts` meets its contract: after i turns the first i values of the channel have their parts added.
-- Assumes nothing.
use Rattle.std.proofs.Common.{◌≡◌, ℕ, ℤ, ◌+◌, ◌*◌, ◌%◌, ◌<◌, pos, get_or}
use Rattle.std.specs.Float.{nan}
use Rattle.numbers.specs.Sizes.{FRAME_SAMPLES}
use Rattle.mix_voice.specs.Mixed.{Summed}
use Rattle.mix_voice.proofs.channel.Channel.add_parts.Given as goal

abbrev pub invariant-loop-i : goal.invariant-loop-i
invariant-loop-i g l =
    (parts : ℕ → ℤ)
    → ((i : ℕ) → i < FRAME_SAMPLES → (r : ℤ)
    → goal.F-post g l.part i (get_or l.self.frame.now (i * 2 + l.self.number % 2) (pos 0)) (get_or l.self.floats.now i nan) r
    → r ≡ parts (l.self.number * FRAME_SAMPLES + i))
    → Summed parts (l.self.number * FRAME_SAMPLES) (l.self.number * FRAME_SAMPLES + l.i) l.initial.mixes l.mixes
