-- The traps of document 01 and of its reading: the left side of a sample is the three mixes' parts added in turn, which is then computed.
-- Assumes nothing.
use Prim.Native.Nat.{ℕ, ◌+◌, ◌*◌, ◌/◌, ◌%◌, ◌<◌}
use mathlib.Core.Path.{◌≡◌, ◌∙◌}
use mathlib.Core.List.{List}
use native.Mathlib.Omega.{arith}
use lib.Dec.{lit<}
use lib.Ieee.{Float, add, mul, of_int, to_signed}
use lib.IntN.{ℤ, pos, negsuc}
use lib.ListN.{get_or, get_or-replicate}
use Rattle.lists.proofs.Tabulate.{get_d_tabulate}
use Rattle.layout.specs.declared.Layout.{Layout}
use Rattle.numbers.specs.Literals.{+1}
use Rattle.numbers.specs.Sizes.{FRAME}
use Rattle.mixer_state.specs.State.{volume_of}
use Rattle.mixer_state.specs.declared.Mixer.{Mixer}
use Rattle.mixer_state.specs.declared.Output.TheVariants.{Stereo}
use Rattle.downmix.specs.Downmix.{stereo_part, added, value_at, part_at, mixed_in, downmixed}
use Rattle.mixer_frame.specs.Frame.{silence, with}
use Rattle.mixer_frame.specs.Traps.{Hears, left_at, ClampedFirst, ClampedAlone}

-- ---- a mix added to a frame, at the left side of a sample

module _ (v : Float) (mix frame : List ℤ) (i : ℕ) (h : i < 160) where
  left_part : part_at Stereo v mix (i * 2) ≡ stereo_part v (value_at mix 0 i) (value_at mix 2 i)
  left_part = λ j. stereo_part v (get_or mix (a j) (pos 0)) (get_or mix (c j) (pos 0))
    where
      a : i * 2 % 2 * 160 + i * 2 / 2 ≡ 0 * 160 + i
      a = omega arith

      c : (i * 2 % 2 + 2) * 160 + i * 2 / 2 ≡ 2 * 160 + i
      c = omega arith

  left_mixed :
      get_or (mixed_in Stereo v mix frame) (i * 2) (pos 0)
      ≡ added (get_or frame (i * 2) (pos 0)) (stereo_part v (value_at mix 0 i) (value_at mix 2 i))
  unfolding mixed_in
  left_mixed =
      get_d_tabulate (λ k. added (get_or frame k (pos 0)) (part_at Stereo v mix k)) FRAME (i * 2) (pos 0) (omega arith)
      ∙ (λ j. added (get_or frame (i * 2) (pos 0)) (left_part j))

module _ (s : Mixer) (k : ℕ) (mix frame : List ℤ) (i : ℕ) (x o : ℤ) where
  turn :
      i < 160 → s.output ≡ Stereo → volume_of s k ≡ +1 → (value_at mix 0 i ≡ x) × (value_at mix 2 i ≡ pos 0)
      → get_or frame (i * 2) (pos 0) ≡ o → get_or (downmixed s k mix frame) (i * 2) (pos 0) ≡ added o (stereo_part +1 x (pos 0))
  turn h st loud holds was =
      (λ j. get_or (mixed_in (st j) (loud j) mix frame) (i * 2) (pos 0)) ∙ left_mixed +1 mix frame i h
      ∙ (λ j. added (was j) (stereo_part +1 (holds.0 j) (holds.1 j)))

-- ---- the three in turn

module _ (l : Layout) (s : Mixer) (read : List ℕ) (mixes : List ℤ) (i : ℕ) where
  in_turn_lem :
      (x y : ℤ) → Hears l s read mixes i x y
      → left_at l s read mixes i
      ≡ added (added (added (pos 0) (stereo_part +1 x (pos 0))) (stereo_part +1 y (pos 0))) (stereo_part +1 (pos 0) (pos 0))
  in_turn_lem x y h =
      let inside = h.sample in
      let none = get_or-replicate FRAME (i * 2) (pos 0) (pos 0) (omega arith) in
      let one = turn s 0 _ silence i x _ inside h.stereo (h.loud 0 (lit< tt)) h.first none in
      let two = turn s 1 _ (with l s read mixes 0 silence) i y _ inside h.stereo (h.loud 1 (lit< tt)) h.second one in
      turn s 2 _ (with l s read mixes 1 (with l s read mixes 0 silence)) i (pos 0) _ inside h.stereo (h.loud 2 (lit< tt)) h.third
      two

  pub clamped_first : ClampedFirst l s read mixes i
  unfolding added stereo_part of_int add mul to_signed
  clamped_first h = in_turn_lem (pos 40000) (negsuc 9999) h

  pub clamped_alone : ClampedAlone l s read mixes i
  unfolding added stereo_part of_int add mul to_signed
  clamped_alone h = in_turn_lem (negsuc 19999) (pos 60000) h
