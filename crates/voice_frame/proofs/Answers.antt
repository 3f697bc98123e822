-- A voice's frame by its number: refused with it, or served; and served, what is made of the record that its configuration leaves.
-- Assumes nothing.
use mathlib.Core.Path.{◌≡◌, sym, ap, ◌∙◌}
use mathlib.Core.List.{List}
use Prim.Native.Nat.{ℕ}
use lib.IntN.{ℤ}
use lib.ListN.{length}
use borrow.Author.Tests.{eq-eqb, ne_eqb}
use Rattle.lists.proofs.Bools.{cond_yes, cond_no}
use Rattle.voice.specs.declared.record.Voice.{Voice}
use Rattle.status.specs.Status.{status_of}
use Rattle.config.specs.Parsed.{Configured, configured, bytes_after}
use Rattle.voice_frame.specs.VoiceFrame.{Fed, Answer, served, refused, number, settled_voice, given, voice_frame, number_of}
use Rattle.voice_frame.specs.VoiceFrame.{voice_after, lane_after, configuration_after, status_after, mixes_after}
use Rattle.voice_frame.specs.VoiceFrame.{sounding, sounding_lane, parts_of, mixed_with, left}

pub refuses : (f : Fed) → (number f ≡ 0 → ⊥) → voice_frame f ≡ refused (number f)
unfolding voice_frame
refuses f h = cond_no _ _ (ne_eqb _ _ h)

pub serves : (f : Fed) → number f ≡ 0 → voice_frame f ≡ served (given f)
unfolding voice_frame
serves f h = cond_yes _ _ (eq-eqb _ _ h)

-- a configuration that is answered with 0 and a record u: the frame is what u sounds
module _ (f : Fed) (u : Voice)
    (done : configured f.configuration f.coefficients f.voice (length f.lane) ≡ record { number = 0; voice = u }) where
  abbrev sounded : Voice → Voice
  sounded w = sounding f.window f.base w f.lane

  is_served : voice_frame f ≡ served (given f)
  is_served = serves f (ap (λ (d : Configured). d.number) done)

  settled_is : u ≡ settled_voice f
  settled_is = sym (ap (λ (d : Configured). d.voice) done)

  pub number_served : 0 ≡ number_of (voice_frame f)
  number_served = sym (ap number_of is_served)

  pub voice_served : left (sounded u) ≡ voice_after (voice_frame f) f.voice
  unfolding given
  voice_served = ap (λ (w : Voice). left (sounded w)) settled_is ∙ sym (ap (λ (a : Answer). voice_after a f.voice) is_served)

  pub lane_served : sounding_lane f.window f.base u f.lane ≡ lane_after (voice_frame f) f.lane
  unfolding given
  lane_served =
      ap (λ (w : Voice). sounding_lane f.window f.base w f.lane) settled_is
      ∙ sym (ap (λ (a : Answer). lane_after a f.lane) is_served)

  pub bytes_served : bytes_after f.configuration f.coefficients f.voice (length f.lane)
      ≡ configuration_after (voice_frame f) f.configuration
  unfolding given
  bytes_served = sym (ap (λ (a : Answer). configuration_after a f.configuration) is_served)

  pub mixes_served : (mixes : List ℤ) → mixed_with (parts_of (sounded u)) mixes ≡ mixes_after (voice_frame f) mixes
  unfolding given
  mixes_served mixes =
      ap (λ (w : Voice). mixed_with (parts_of (sounded w)) mixes) settled_is ∙ sym (ap (λ (a : Answer). mixes_after a mixes) is_served)

  pub status_served : (bytes : List ℕ) → status_of (sounded u) ≡ status_after (voice_frame f) bytes
  unfolding given
  status_served bytes =
      ap (λ (w : Voice). status_of (sounded w)) settled_is ∙ sym (ap (λ (a : Answer). status_after a bytes) is_served)
