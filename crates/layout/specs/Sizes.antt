-- The places' sizes from what they hold. Assumes nothing: this is a definition; `sizes` of proofs/Sizes.antt proves it.
use Rattle.std.specs.Prelude.{◌≡◌, ◌*◌, [], ◌∷◌, map}
use Rattle.fields.specs.Fields.{total, configuration, status, mixer_configuration}
use Rattle.layout.specs.declared.Layout.{Layout}
use Rattle.layout.specs.declared.Place.{Place}
use Rattle.layout.specs.Places.{places_of}

-- The places of a region hold the structures of the tables: 24 voices; 16 coefficients of 2 bytes; a counter of 2; 160 samples for 2 ears
-- of 2 bytes; 160 samples of 4 bytes for 4 channels of 2 mixes.
abbrev pub Sizes : Type 0
Sizes =
    (l : Layout)
    → map (λ (p : Place). p.size) (places_of l)
    ≡ 24 * total configuration ∷ 24 * total status ∷ 24 * (16 * 2) ∷ 2 ∷ total mixer_configuration ∷ 160 * 2 * 2 ∷ 2 * 4 * 160 * 4 ∷ []
