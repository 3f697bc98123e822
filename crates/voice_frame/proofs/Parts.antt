-- What a voice adds to the mixes, by whether it is enabled: the parts of mix_voice, or nothing. By what stands at an index. Assumes
-- nothing.
use mathlib.Core.Path.{◌≡◌, sym, ap, ◌∙◌}
use mathlib.Core.Bool.{true, false, cond}
use mathlib.Core.List.{List}
use Prim.Native.Nat.{ℕ, ◌<◌}
use lib.IntN.{ℤ, pos, +ℤ_idr}
use lib.ListN.{length, get_or}
use lib.Signed.{mag}
use Rattle.lists.specs.Tabulate.{tabulate}
use Rattle.lists.proofs.Bools.{cond_yes, cond_no}
use Rattle.lists.proofs.Tabulate.{tabulated, length_tabulate, get_d_tabulate}
use Rattle.numbers.specs.Wrap.{wrap32}
use Rattle.numbers.proofs.Ranges.{wrap_self}
use Rattle.voice.specs.declared.record.Voice.{Voice}
use Rattle.mix_voice.specs.Mixed.{ramped_at, summed, ramped}
use Rattle.voice_frame.specs.VoiceFrame.{parts_of, mixed_with}

-- two that are the same at every index
same : (f g : ℕ → ℤ) (n : ℕ) → ((k : ℕ) → k < n → f k ≡ g k) → tabulate f n ≡ tabulate g n
same f g n h = tabulated (tabulate f n) g n (pos 0) (length_tabulate f n) (λ k b. get_d_tabulate f n k (pos 0) b ∙ h k b)

module _ (v : Voice) (mixes : List ℤ) where
  abbrev part : ℕ → ℤ
  part k = cond v.enabled (ramped_at v.has_ramp v.ramp v.gain v.frame k) (pos 0)

  abbrev sum : ℕ → ℤ
  sum k = summed (get_or mixes k (pos 0)) (get_or (parts_of v) k (pos 0))

  part_at : (k : ℕ) → k < 1920 → get_or (parts_of v) k (pos 0) ≡ part k
  unfolding parts_of
  part_at k h = get_d_tabulate part 1920 k (pos 0) h

  pub mixed_on : v.enabled ≡ true → ramped v.has_ramp v.ramp v.gain v.frame mixes ≡ mixed_with (parts_of v) mixes
  unfolding ramped mixed_with
  mixed_on e =
      same (λ k. summed (get_or mixes k (pos 0)) (ramped_at v.has_ramp v.ramp v.gain v.frame k)) sum 1920
      (λ k h. sym (ap (λ (z : ℤ). summed (get_or mixes k (pos 0)) z) (part_at k h ∙ cond_yes _ _ e)))

  pub mixed_off : v.enabled ≡ false → length mixes ≡ 1920 → ((k : ℕ) → mag (get_or mixes k (pos 0)) < 2147483648)
      → mixes ≡ mixed_with (parts_of v) mixes
  unfolding mixed_with
  mixed_off e long few =
      tabulated mixes sum 1920 (pos 0) long
      (λ k h. sym (ap (λ (z : ℤ). summed (get_or mixes k (pos 0)) z) (part_at k h ∙ cond_no _ _ e)
      ∙ ap (λ (z : ℤ). wrap32 z) (+ℤ_idr (get_or mixes k (pos 0)))
      ∙ wrap_self (get_or mixes k (pos 0)) (record { sfits = few k })))
