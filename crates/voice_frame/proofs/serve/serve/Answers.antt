-- `voice_frame::serve::serve` meets its contract: refused, nothing was changed; served, the frame is that of the record that the
-- configuration left, and with a zero dirty word that is the one that came. A record stays well-formed through its configuration. Assumes
-- nothing.
use mathlib.Core.Path.{◌≡◌, sym, ap, ◌∙◌, subst}
use lib.ListN.{length}
use Rattle.std.specs.Prelude.{Err}
use Rattle.std.proofs.lemmas.Result.{err_from_is_err_and}
use Rattle.refusals.specs.Numbers as Numbers
use Rattle.refusals.specs.declared.Refusal.{Refusal}
use Rattle.refusals.proofs.Numbers.{ok_exactly}
use Rattle.voice.specs.Malformed.{WellFormed}
use Rattle.voice.specs.declared.record.Voice.{Voice}
use Rattle.voice.proofs.Formed.{not_malformed_formed, formed_not_malformed}
use Rattle.config.specs.Parsed.{configured, bytes_after}
use Rattle.config_laws.proofs.Formed.{keeps_formed}
use Rattle.config_laws.proofs.Refused.{refused_untouched, clean_unchanged}
use Rattle.voice_frame.specs.VoiceFrame.{Fed, fed, Answer, number, settled_voice, number_of, voice_after, lane_after}
use Rattle.voice_frame.specs.VoiceFrame.{configuration_after, status_after, mixes_after}
use Rattle.voice_frame.proofs.Answers.{refuses, number_served, voice_served, lane_served, bytes_served, mixes_served}
use Rattle.voice_frame.proofs.Answers.{status_served}
use Rattle.voice_frame.proofs.serve.serve.Goals as goal
use Rattle.voice_frame.proofs.serve.serve.Goals.{then-read32-ne0+in_ok-settle, else-read32-ne0}

-- a refusal is none of 0
refused_by : (f : Fed) (e : Refusal) → Numbers.number e ≡ number f → number f ≡ 0 → ⊥
refused_by f e is z = let ok = (ok_exactly {A = Voice} (Err e)).0 (is ∙ z) in cc

-- where it is answered without a refusal, it leaves that record
served_by : (f : Fed) (v : Voice) → 0 ≡ number f → v ≡ settled_voice f
    → configured f.configuration f.coefficients f.voice (length f.lane) ≡ record { number = 0; voice = v }
served_by f v n e = sym (λ i. record { number = n i; voice = e i })

-- a record stays well-formed through its configuration
formed : (f : Fed) (u : Voice) → u ≡ settled_voice f → WellFormed (length f.lane) f.voice → WellFormed (length f.lane) u
formed f u e w =
    subst (WellFormed (length f.lane)) (sym e)
    (not_malformed_formed (length f.lane) _
    (keeps_formed f.configuration f.coefficients f.voice (length f.lane) (formed_not_malformed (length f.lane) f.voice w)))

pub returns-in_err-settle : goal.returns-in_err-settle
returns-in_err-settle c =
    let a = c.args in
    let e = c.settle.ensures in
    let f : Fed = fed a.v a.lane.now a.bytes.now a.coefficients.now a.window.bytes.now a.window.base in
    let is : Numbers.number c.in_err-settle.field-0.0 ≡ number f = sym (ap Numbers.number_of c.in_err-settle.was) ∙ e.number in
    let not0 = refused_by f c.in_err-settle.field-0.0 is in
    let r = refuses f not0 in
    let stays = refused_untouched f.configuration f.coefficients a.v (length a.lane.now) not0 in
    let p = err_from_is_err_and c.from_residual.result c.from_residual.ensures.1 in
    rw (p.1, p.2) (record {
      number = is ∙ sym (ap number_of r);
      «record» = sym (ap (λ (b : Answer). voice_after b a.v) r);
      lane = sym (ap (λ (b : Answer). lane_after b a.lane.now) r);
      configuration = e.bytes ∙ stays.bytes_stay ∙ sym (ap (λ (b : Answer). configuration_after b f.configuration) r);
      mixes = sym (ap (λ (b : Answer). mixes_after b a.mixes.now) r);
      status = sym (ap (λ (b : Answer). status_after b a.report.now) r);
    })

pub frame_of-requires-clause-well_formed : goal.frame_of-requires-clause-well_formed
frame_of-requires-clause-well_formed c =
    let a = c.args in
    let f : Fed = fed a.v a.lane.now a.bytes.now a.coefficients.now a.window.bytes.now a.window.base in
    elim c.if-read32-ne0.branch [
      | then-read32-ne0+in_ok-settle w ↦
          formed f _ (w.v-is ∙ w.settle.ensures.«record») c.requires.well_formed
      | else-read32-ne0 w ↦ subst (WellFormed (length a.lane.now)) (sym w.v-is) c.requires.well_formed
    ]

pub returns : goal.returns
returns c =
    let a = c.args in
    let e = c.frame_of.ensures in
    let f : Fed = fed a.v a.lane.now a.bytes.now a.coefficients.now a.window.bytes.now a.window.base in
    let v = c.if-read32-ne0.v in
    let L = length a.lane.now in
    let settled :
    (configured f.configuration f.coefficients a.v L ≡ record { number = 0; voice = v })
    × (c.if-read32-ne0.bytes ≡ bytes_after f.configuration f.coefficients a.v L) =
    elim c.if-read32-ne0.branch [
      | then-read32-ne0+in_ok-settle w ↦
          let s = w.settle.ensures in
          let none = sym (ap Numbers.number_of w.in_ok-settle.was) ∙ s.number in
          (served_by f v none (w.v-is ∙ s.«record»), w.bytes-is ∙ s.bytes)
      | else-read32-ne0 w ↦
          let clean = clean_unchanged f.configuration f.coefficients a.v L (sym c.read32.ensures ∙ w.if-read32-ne0.false) in
          (clean.served ∙ (λ j. record { number = 0; voice = sym w.v-is j }), w.bytes-is ∙ sym clean.bytes_stay)
    ] in
    let done = settled.0 in record {
      number = number_served f v done;
      «record» = e.«record» ∙ voice_served f v done;
      lane = e.lane ∙ lane_served f v done;
      configuration = settled.1 ∙ bytes_served f v done;
      mixes = e.mixes ∙ mixes_served f v done a.mixes.now;
      status = e.status ∙ status_served f v done a.report.now;
    }
