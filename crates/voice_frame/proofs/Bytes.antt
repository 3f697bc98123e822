-- A configuration's bytes stay as many: what is cleared is stored over. Assumes nothing.
use mathlib.Core.Path.{◌≡◌, refl, ◌∙◌}
use mathlib.Core.List.{List}
use Prim.Native.Nat.{ℕ}
use lib.Dec.{eqb}
use lib.ListN.{length}
use Rattle.lists.proofs.Bools.{cond_either}
use Rattle.lists.proofs.Splice.{length_splice}
use Rattle.voice.specs.declared.record.Voice.{Voice}
use Rattle.settings.specs.Dirty.{dirty_in, flag, BUFFER_QUEUE}
use Rattle.config.specs.Parsed.{slots_cleared, cleared, refusal, bytes_after}

slots_long : (bytes : List ℕ) → length (slots_cleared bytes) ≡ length bytes
unfolding slots_cleared
slots_long bytes = cond_either (λ (l : List ℕ). length l ≡ length bytes) (flag bytes BUFFER_QUEUE) _ bytes (length_splice bytes _ _) refl

cleared_long : (bytes : List ℕ) → length (cleared bytes) ≡ length bytes
unfolding cleared
cleared_long bytes = length_splice (slots_cleared bytes) _ _ ∙ slots_long bytes

pub bytes_long : (bytes coefficients : List ℕ) (v : Voice) (L : ℕ) → length (bytes_after bytes coefficients v L) ≡ length bytes
unfolding bytes_after
bytes_long bytes coefficients v L =
    cond_either Long (eqb (dirty_in bytes) 0) bytes _ refl
    (cond_either Long (eqb (refusal bytes coefficients v L) 0) (cleared bytes) bytes (cleared_long bytes) refl)
  where
    Long : List ℕ → Type 0
    Long l = length l ≡ length bytes
