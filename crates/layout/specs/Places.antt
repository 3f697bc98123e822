-- The places of a region, and the numbers 1, 2 and 3 that a call gives back where they are not right. Assumes nothing: these are
-- definitions.
use Rattle.std.specs.Prelude.{ℕ, ◌+◌, Bool, true, not, ◌&&◌, ◌||◌, List, [], ◌∷◌, eqb, ltb, leb, get_or}
use Rattle.lists.specs.Lowest.{Rule, rule, lowest}
use Rattle.layout.specs.declared.Layout.{Layout}
use Rattle.layout.specs.declared.Place.{Place}

-- so many bytes from an offset on
abbrev pub place : ℕ → ℕ → Place
place at size = record { at = at; size = size }

-- "Configurations 4,608 bytes (24 of 192), statuses 288 (24 of 12), coefficients 768 (24 of 32), frame counter 2, mixer configuration 44,
-- final samples 640, intermediate samples 5,120."
abbrev pub places_of : Layout → List Place
places_of l =
    place l.configurations 4608
    ∷ place l.statuses 288
    ∷ place l.coefficients 768
    ∷ place l.frame_counter 2
    ∷ place l.mixer_configuration 44
    ∷ place l.final_samples 640
    ∷ place l.intermediate_samples 5120
    ∷ []

-- place i of the seven
abbrev pub place_at : Layout → ℕ → Place
place_at l i = get_or (places_of l) i (place 0 0)

-- where a place ends: the offset of the byte after its last
abbrev pub end : Place → ℕ
end p = p.at + p.size

-- no place of a list ends past n bytes
abbrev pub inside : ℕ → List Place → Bool
inside n [] = true
inside n (p ∷ ps) = leb (end p) n && inside n ps

-- two places share no byte: one ends where the other begins, or before
abbrev pub apart_two : Place → Place → Bool
apart_two p q = leb (end p) q.at || leb (end q) p.at

-- a place shares no byte with any of a list
abbrev pub apart_from : Place → List Place → Bool
apart_from p [] = true
apart_from p (q ∷ qs) = apart_two p q && apart_from p qs

-- no two places of a list share a byte
abbrev pub apart : List Place → Bool
apart [] = true
apart (p ∷ ps) = apart_from p ps && apart ps

-- the most bytes that a region may have
abbrev pub region_most : ℕ
region_most = 65536

-- The rules for regions of `first` and `second` bytes. 1: "region lengths differ or exceed 65,536"; 2: "a place ends past the region";
-- 3: "two places share a byte".
abbrev pub layout_rules : ℕ → ℕ → Layout → List Rule
layout_rules first second l =
    rule (not (eqb first second) || ltb region_most first) 1
    ∷ rule (not (inside first (places_of l))) 2
    ∷ rule (not (apart (places_of l))) 3
    ∷ []

-- the lowest of these numbers that applies, or 0
abbrev pub layout_number : ℕ → ℕ → Layout → ℕ
layout_number first second l = lowest (layout_rules first second l)
