-- Lists put one after the other. Assumes nothing: this is a definition.
use Rattle.std.specs.Prelude.{ℕ, zero, suc, List, [], ◌++◌}

-- f 0, f 1, .., f (n - 1) one after the other
unfoldable pub joined : {A : Type 0} → ℕ → (ℕ → List A) → List A
joined zero f = []
joined (suc n) f = joined n f ++ f n
