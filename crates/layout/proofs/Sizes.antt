-- The seven sizes are those of the structures that the places hold: computed. Assumes nothing.
use mathlib.Core.Path.{refl}
use Rattle.layout.specs.Sizes.{Sizes}

pub sizes : Sizes
sizes = λ l. refl
