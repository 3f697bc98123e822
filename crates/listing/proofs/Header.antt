-- What the header holds the whole input holds, and the frames are the rest of it. Assumes nothing.
use Rattle.std.proofs.Common.{◌≡◌, ℕ, ℤ, pos, ◌+◌, ◌*◌, ◌≤◌, List, ◌++◌, length, take, sym, ap, ◌∙◌, arith}
use lib.Seq.{get_or-take, take_at, drop_at}
use Rattle.numbers.specs.Wrap.{signed16}
use Rattle.little.specs.Little.{at16}
use Rattle.listing.specs.Sizes.{header}
use Rattle.listing.specs.Listing.{coefficients_in, history_in, count_in, frames_in}
use Rattle.lists.proofs.Tabulate.{length_tabulate, get_d_tabulate, tabulated}

-- a read below a cut is the same before the cut
module _ (input : List ℕ) where
  read_below : (k : ℕ) → k + 2 ≤ header → at16 (take header input) k ≡ at16 input k
  read_below k h = λ j. get_or-take header input (k + 1) 0 (omega arith) j * 256 + get_or-take header input k 0 (omega arith) j

  cut_coefficients : coefficients_in (take header input) ≡ coefficients_in input
  unfolding coefficients_in
  cut_coefficients =
      let cut : ℕ → ℤ = λ i. signed16 (at16 (take header input) (i * 2)) in
      let whole : ℕ → ℤ = λ i. signed16 (at16 input (i * 2)) in
      tabulated (coefficients_in (take header input)) whole 16 (pos 0) (length_tabulate cut 16)
      (λ i h. get_d_tabulate cut 16 i (pos 0) h ∙ ap signed16 (read_below (i * 2) (omega arith)))

  cut_history : history_in (take header input) ≡ history_in input
  cut_history = λ j. record { yn1 = signed16 (read_below 32 (omega arith) j); yn2 = signed16 (read_below 34 (omega arith) j) }

  cut_count : count_in (take header input) ≡ count_in input
  cut_count = read_below 36 (omega arith)

module _ (first frames : List ℕ) (h : length first ≡ header) where
  front : take header (first ++ frames) ≡ first
  front = take_at first frames header h

  pub same_coefficients : coefficients_in first ≡ coefficients_in (first ++ frames)
  same_coefficients = ap coefficients_in (sym front) ∙ cut_coefficients (first ++ frames)

  pub same_history : history_in first ≡ history_in (first ++ frames)
  same_history = ap history_in (sym front) ∙ cut_history (first ++ frames)

  pub same_count : count_in first ≡ count_in (first ++ frames)
  same_count = ap count_in (sym front) ∙ cut_count (first ++ frames)

  pub same_frames : frames ≡ frames_in (first ++ frames)
  same_frames = sym (drop_at first frames header h)
