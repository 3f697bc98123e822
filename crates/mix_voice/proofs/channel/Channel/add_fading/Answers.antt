-- `mix_voice::channel::Channel::add_fading` meets its contract: the tests say what the quick way asks. Assumes nothing.
use mathlib.Core.Path.{◌≡◌, sym, ap, ◌∙◌, subst}
use mathlib.Core.Bool.{true}
use mathlib.Core.List.{List}
use Prim.Native.Nat.{ℕ, ◌+◌, ◌*◌, ◌%◌, ◌<◌}
use lib.IntN.{ℤ, pos}
use lib.Ieee.{Float, nan, binary32, of_bits, add, sub, mul}
use lib.ListN.{get_or}
use borrow.Author.Rules.{rules}
use Rattle.mixing.specs.Gain.{at_gain, fading}
use Rattle.mix_voice.specs.Quick.{FADING_GAIN, within, Around}
use Rattle.mix_voice.specs.Mixed.{place_of, sample_at}
use Rattle.mix_voice.proofs.Way.{sixteen, way_around, fading_is}
use Rattle.mix_voice.proofs.Floats.{float_is, step_at}
use Rattle.mix_voice.proofs.Runs.{place_in, sample_in}
use Rattle.mix_voice.proofs.channel.Channel.add_fading.Goals as goal

at_16 : (g : Float) → within (of_bits binary32 0x4180_0000) g ≡ true → within FADING_GAIN g ≡ true
at_16 g h = ap (λ (y : Float). within y g) (sym sixteen) ∙ h

-- a part by its place and sample, which is that of the value there
valued :
    (from to : Float) (frame : List ℤ) (c i : ℕ) (r : ℤ) → i < 160 → r ≡ fading from to i (get_or frame (i * 2 + c % 2) (pos 0))
    → r ≡ fading from to (place_of (c * 160 + i)) (sample_at frame (c * 160 + i))
valued from to frame c i r h e = e ∙ (λ j. fading from to (place_in c i h j) (sample_in frame c i h j))

pub add_parts-requires : goal.add_parts-requires
add_parts-requires c = λ i h.
    let a = c.args in (
      λ κs p r m. search rules,
      λ κs p r m. h,
      λ κs p r m u v. (
        subst (λ (y : Float). Around 63 (add binary32 a.from (mul binary32 (sub binary32 a.to a.from) y)))
            (sym (step_at c.fade_steps-steps.result c.fade_steps-steps.ensures i h))
            (way_around a.from a.to i h (at_16 a.from (sym c.is_within.ensures ∙ c.if-is_within.true))
            (at_16 a.to (sym c.is_within-then-is_within.ensures ∙ c.if-is_within-2.true))),
        float_is a.self.frame.now (a.self.number % 2) a.self.floats.now a.self.of_its_side i h r.1.1.0,
      ),
    )

pub returns-then-is_within-2 : goal.returns-then-is_within-2
returns-then-is_within-2 c =
    let a = c.args in
    let frame = a.self.frame.now in
    let steps = c.fade_steps-steps.result in
    c.add_parts.ensures (λ k. fading a.from a.to (place_of k) (sample_at frame k))
    (λ i h r p.
    let v = get_or frame (i * 2 + a.self.number % 2) (pos 0) in
    let e : r ≡ at_gain (add binary32 a.from (mul binary32 (sub binary32 a.to a.from) (get_or steps i nan))) v = search rules in
    valued a.from a.to frame a.self.number i r h
    (e ∙ ap (λ (y : Float). at_gain (add binary32 a.from (mul binary32 (sub binary32 a.to a.from) y)) v)
    (step_at steps c.fade_steps-steps.ensures i h) ∙ fading_is a.from a.to i h v))

pub returns-else-is_within : goal.returns-else-is_within
returns-else-is_within c =
    let frame = c.args.self.frame.now in
    c.add_parts-else-is_within.ensures (λ k. fading c.args.from c.args.to (place_of k) (sample_at frame k))
    (λ i h r p. valued c.args.from c.args.to frame c.args.self.number i r h (search rules))
