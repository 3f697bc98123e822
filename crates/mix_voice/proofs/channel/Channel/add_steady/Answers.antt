-- `mix_voice::channel::Channel::add_steady` meets its contract: the test says what the quick way asks, and a gain of 0.0 adds nothing.
-- Assumes nothing.
use mathlib.Core.Path.{◌≡◌, sym, ap, ◌∙◌}
use mathlib.Core.List.{List}
use Prim.Native.Nat.{ℕ, ◌+◌, ◌*◌, ◌%◌, ◌<◌}
use lib.IntN.{ℤ, pos}
use lib.Ieee.{Float, eq}
use lib.ListN.{get_or}
use borrow.Author.Rules.{rules}
use Rattle.numbers.proofs.Literals.{zero_32}
use Rattle.mixing.specs.Gain.{at_gain}
use Rattle.mix_voice.specs.Quick.{within}
use Rattle.mix_voice.specs.Mixed.{sample_at}
use Rattle.mix_voice.proofs.Product.{thirty_two}
use Rattle.mix_voice.proofs.Way.{steady_around}
use Rattle.mix_voice.proofs.Silence.{none_added}
use Rattle.mix_voice.proofs.Floats.{float_is}
use Rattle.mix_voice.proofs.Runs.{sample_in}
use Rattle.mix_voice.proofs.channel.Channel.add_steady.Goals as goal

-- a part by its sample, which is that of the value there
valued :
    (g : Float) (frame : List ℤ) (c i : ℕ) (r : ℤ) → i < 160 → r ≡ at_gain g (get_or frame (i * 2 + c % 2) (pos 0))
    → r ≡ at_gain g (sample_at frame (c * 160 + i))
valued g frame c i r h e = e ∙ ap (at_gain g) (sample_in frame c i h)

pub add_parts-requires : goal.add_parts-requires
add_parts-requires c = λ i h κs p r m u.
    let a = c.args in (
      steady_around _ (ap (λ (y : Float). within y a.gain) (sym thirty_two) ∙ sym c.is_within.ensures ∙ c.if-is_within.true),
      float_is a.self.frame.now (a.self.number % 2) a.self.floats.now a.self.of_its_side i h r.1.1.0,
    )

pub returns-then-gain : goal.returns-then-gain
returns-then-gain c =
    none_added c.args.gain c.args.self.frame.now c.args.mixes.now _ _ (ap (eq c.args.gain) (sym zero_32) ∙ c.if-gain.true) c.ranged.ensures
    c.ranged-then-gain.ensures

pub returns-then-is_within : goal.returns-then-is_within
returns-then-is_within c =
    let frame = c.args.self.frame.now in
    c.add_parts.ensures (λ k. at_gain c.args.gain (sample_at frame k))
    (λ i h r p. valued c.args.gain frame c.args.self.number i r h (search rules))

pub returns-else-is_within : goal.returns-else-is_within
returns-else-is_within c =
    let frame = c.args.self.frame.now in
    c.add_parts-else-is_within.ensures (λ k. at_gain c.args.gain (sample_at frame k))
    (λ i h r p. valued c.args.gain frame c.args.self.number i r h (search rules))
