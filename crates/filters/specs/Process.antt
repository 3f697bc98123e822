-- Module 3 of document 01, samples through the filters of a voice. Assumes nothing: these are definitions.
use Rattle.std.specs.Prelude.{ℕ, ◌-◌, cond, List, [], ◌∷◌, ℤ}
use Rattle.filters.specs.declared.state.Filters.{Filters}
use Rattle.filters.specs.Passed.{Passed}
use Rattle.filters.specs.Filter.{simple_value, simple_after, biquad_value, biquad_after}

-- a sample of a channel through a filter, where its mark is on: the value, and the filters after it
unfoldable pub pass_simple : ℕ → Filters → ℤ → Passed
pass_simple channel f x =
    let value = simple_value channel f.simple x in
    cond f.has_simple (record {
      filters = record {
        has_simple = f.has_simple;
        simple = simple_after channel f.simple value;
        has_biquad = f.has_biquad;
        biquad = f.biquad;
      };
      value = value;
    })
    (record { filters = f; value = x })

unfoldable pub pass_biquad : ℕ → Filters → ℤ → Passed
pass_biquad channel f x =
    let value = biquad_value channel f.biquad x in
    cond f.has_biquad (record {
      filters = record {
        has_simple = f.has_simple;
        simple = f.simple;
        has_biquad = f.has_biquad;
        biquad = biquad_after channel f.biquad x value;
      };
      value = value;
    })
    (record { filters = f; value = x })

-- "Simple, shift 15, then biquad, shift 14"
unfoldable pub pass : ℕ → Filters → ℤ → Passed
pass channel f x = let s = pass_simple channel f x in pass_biquad channel s.filters s.value

-- samples flat, left and right in turn, the first one of the channel given: what comes out for them, and the filters after the last.
-- "They run on produced samples only": the list is those
abbrev pub passed_from : ℕ → Filters → List ℤ → List ℤ
passed_from channel f [] = []
passed_from channel f (x ∷ samples) = (pass channel f x).value ∷ passed_from (1 - channel) (pass channel f x).filters samples

abbrev pub filters_after : ℕ → Filters → List ℤ → Filters
filters_after channel f [] = f
filters_after channel f (x ∷ samples) = filters_after (1 - channel) (pass channel f x).filters samples
