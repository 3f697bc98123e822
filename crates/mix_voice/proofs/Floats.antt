-- The samples of a side of a frame as floats, and the steps of a fade, one by one. Assumes nothing.
use mathlib.Core.Path.{◌≡◌, sym, ap, ◌∙◌}
use mathlib.Core.List.{List}
use Prim.Native.Nat.{ℕ, ◌+◌, ◌*◌, ◌<◌}
use lib.IntN.{ℤ, pos}
use lib.Ieee.{Float, nan}
use lib.ListN.{get_or}
use lib.Signed.{mag}
use mir.Syntax.{w16}
use mir.Val.{SFits, to_z, of_z}
use mir.Facts.{to_z-of_z}
use Rattle.lists.proofs.Tabulate.{get_d_tabulate}
use Rattle.numbers.specs.Casts.{single}
use Rattle.mixing.specs.Gain.{progress}
use Rattle.mix_voice.specs.Mixed.{floats_of, fade_steps}

float_at : (frame : List ℤ) (side : ℕ) (floats : List Float) → floats ≡ floats_of frame side → (i : ℕ) → i < 160
    → get_or floats i nan ≡ single (get_or frame (i * 2 + side) (pos 0))
unfolding floats_of
float_at frame side floats e i h =
    ap (λ (l : List Float). get_or l i nan) e ∙ get_d_tabulate (λ i. single (get_or frame (i * 2 + side) (pos 0))) 160 i nan h

-- as a call is handed the sample
pub float_is : (frame : List ℤ) (side : ℕ) (floats : List Float) → floats ≡ floats_of frame side → (i : ℕ) → i < 160
    → mag (get_or frame (i * 2 + side) (pos 0)) < 32768
    → get_or floats i nan ≡ single (to_z w16 (of_z w16 (get_or frame (i * 2 + side) (pos 0))))
float_is frame side floats e i h m =
    float_at frame side floats e i h ∙ ap single (sym (to_z-of_z fit))
  where
    fit : SFits w16 (get_or frame (i * 2 + side) (pos 0))
    fit = record { sfits = m }

pub step_at : (steps : List Float) → steps ≡ fade_steps → (i : ℕ) → i < 160 → get_or steps i nan ≡ progress i
unfolding fade_steps
step_at steps e i h = ap (λ (l : List Float). get_or l i nan) e ∙ get_d_tabulate progress 160 i nan h
