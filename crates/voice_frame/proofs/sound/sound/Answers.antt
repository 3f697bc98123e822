-- `voice_frame::sound::sound` meets its contract, by whether the voice is enabled and a filter is on. Assumes nothing.
use mathlib.Core.Path.{◌≡◌, sym, ◌∙◌, subst}
use native.Mathlib.Omega.{arith}
use lib.Dec.{T}
use Rattle.lists.proofs.Bools.{cond_yes, cond_no}
use Rattle.filters.specs.Range.{filters_in_range}
use Rattle.voice.specs.Set.{set_voice_filters, set_voice_frame}
use Rattle.voice.specs.declared.record.Voice.{Voice}
use Rattle.voice_frame.specs.VoiceFrame.{filtered, sounding, sounding_lane}
use Rattle.voice_frame.proofs.Sounding.{filtered_off, played_range, played_most}
use Rattle.voice_frame.proofs.sound.sound.Goals as goal

pub returns-then-not-v : goal.returns-then-not-v
unfolding sounding sounding_lane
returns-then-not-v c =
    let off = c.if-not-v.true in record {
      «record» = sym (cond_no _ _ off);
      lane = sym (cond_no _ _ off);
    }

pub pass-requires : goal.pass-requires
pass-requires c =
    let a = c.args in
    let e = c.play_frame-played.ensures in record {
      filters_in_range = subst (λ (v : Voice). T (filters_in_range v.filters)) (sym e.«record»)
          (played_range a.window.bytes.now a.window.base a.v.now a.lane.now c.requires.well_formed);
      within_frame = omega (arith, e.produced, played_most a.window.bytes.now a.window.base a.v.now a.lane.now);
    }

pub returns-then-v : goal.returns-then-v
unfolding sounding sounding_lane filtered
returns-then-v c =
    let e = c.play_frame-played.ensures in
    let on = c.if-not-v.false in
    let w = c.play_frame-played.result.voice in
    let n = c.play_frame-played.result.produced in
    let passed : set_voice_frame c.pass.new.frame (set_voice_filters c.pass.new.filters w) ≡ filtered n w =
    λ i. set_voice_frame (c.pass.ensures.frame i) (set_voice_filters (c.pass.ensures.filters i) w) in record {
      «record» = passed ∙ (λ i. filtered (e.produced i) (e.«record» i)) ∙ sym (cond_yes _ _ on);
      lane = e.lane ∙ sym (cond_yes _ _ on);
    }

pub returns-else-v-2 : goal.returns-else-v-2
unfolding sounding sounding_lane
returns-else-v-2 c =
    let e = c.play_frame-played.ensures in
    let on = c.if-not-v.false in
    let w = c.play_frame-played.result.voice in
    record {
      «record» = sym (filtered_off c.play_frame-played.result.produced w c.if-v.false c.if-v-2.false)
          ∙ (λ i. filtered (e.produced i) (e.«record» i)) ∙ sym (cond_yes _ _ on);
      lane = e.lane ∙ sym (cond_yes _ _ on);
    }
