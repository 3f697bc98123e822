-- `stretches::source::Source::sample` meets its contract: the sample is among what is held, by the format. Assumes nothing.
use Rattle.std.proofs.Common.{◌+◌, ◌*◌, ◌≤◌, ◌<◌, get_or, length, sym, ap, ◌∙◌, rules, arith}
use Rattle.numbers.specs.Wrap.{signed16}
use Rattle.little.specs.Little.{at16}
use Rattle.voice.specs.declared.record.Format.{Format}
use Rattle.samples.specs.Samples.{high_byte}
use Rattle.stretches.specs.Source.{size8, sample_by, sample_in}
use Rattle.stretches.proofs.Held.{among_by, place_below, place_below16, value_among, values_of16}
use Rattle.stretches.proofs.source.Source.sample.Goals as goal

pub pcm_in-requires-clause-callable : goal.pcm_in-requires-clause-callable
pcm_in-requires-clause-callable c =
    let s = c.args.self.now in
    let held : (c.args.place + 1) * size8 s.played.stereo ≤ length s.bytes.now =
    among_by s c.args.place c.requires _ c.in-Pcm8.is in
    λ k lt.
    let inside : k < length s.bytes.now = omega arith in
    search rules

pub pcm_in-requires-in-Pcm16-clause-callable : goal.pcm_in-requires-in-Pcm16-clause-callable
pcm_in-requires-in-Pcm16-clause-callable c =
    let s = c.args.self.now in
    let held = among_by s c.args.place c.requires _ c.in-Pcm16.is in
    λ k lt.
    let inside : k * 2 + 2 ≤ length s.bytes.now = omega (arith, held, value_among s.played.stereo c.args.place k lt) in
    search rules

pub pcm_in-requires-clause-few : goal.pcm_in-requires-clause-few
pcm_in-requires-clause-few c =
    let s = c.args.self.now in
    omega (
      arith,
      place_below s.played.stereo c.args.place _
          (among_by s c.args.place c.requires _ c.in-Pcm8.is),
    )

pub pcm_in-requires-in-Pcm16-clause-few : goal.pcm_in-requires-in-Pcm16-clause-few
pcm_in-requires-in-Pcm16-clause-few c =
    let s = c.args.self.now in
    omega (
      arith,
      place_below16 s.played.stereo c.args.place _
          (among_by s c.args.place c.requires _ c.in-Pcm16.is),
    )

pub returns-in-Pcm8 : goal.returns-in-Pcm8
unfolding sample_in
returns-in-Pcm8 c =
    let s = c.args.self.now in
    c.pcm_in.ensures (λ k. high_byte (get_or s.bytes.now k 0)) (λ k lt v p. search rules)
    ∙ sym (ap (λ (f : Format). sample_by s.lane.now s.bytes.now f s.played.stereo c.args.place) c.in-Pcm8.is)

pub returns-in-Pcm16 : goal.returns-in-Pcm16
unfolding sample_in
returns-in-Pcm16 c =
    let s = c.args.self.now in
    c.pcm_in-in-Pcm16.ensures (λ k. signed16 (at16 s.bytes.now (k * 2))) (λ k lt v p. search rules)
    ∙ values_of16 s.bytes.now s.played.stereo c.args.place
    ∙ sym (ap (λ (f : Format). sample_by s.lane.now s.bytes.now f s.played.stereo c.args.place) c.in-Pcm16.is)

pub bounds-self-place : goal.bounds-self-place
bounds-self-place c =
    let s = c.args.self.now in
    omega (arith, among_by s c.args.place c.requires _ c.in-Adpcm.is)

pub offset_bounds-self-place : goal.offset_bounds-self-place
offset_bounds-self-place c =
    let s = c.args.self.now in
    omega (arith, among_by s c.args.place c.requires _ c.in-Adpcm.is)
