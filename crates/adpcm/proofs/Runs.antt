-- A run of samples from a list of codes, one stored after the other: what holds at the head of such a loop, and that a sample more keeps
-- it. Assumes nothing.
use mathlib.Core.Path.{◌≡◌, sym, ap, ◌∙◌, subst}
use mathlib.Core.List.{List}
use Prim.Native.Nat.{ℕ, ◌+◌, ◌*◌, ◌≤◌, ◌<◌}
use native.Mathlib.Omega.{arith}
use lib.IntN.{ℤ, pos}
use lib.ListN.{length, take, get_or, set, length-set}
use lib.Seq.{take_all}
use Rattle.lists.proofs.Fill.{filled, fill_more, fill_all}
use Rattle.adpcm.specs.declared.History.{History}
use Rattle.adpcm.specs.Code.{Code, code, first_nibble, second_nibble, codes_by, after, samples_of, history_after}
use Rattle.adpcm.specs.Adpcm.{sample_of}
use Rattle.adpcm.proofs.Codes.{length_samples, sample_at_lem, history_next, codes_by_long, taken_long, code_first, code_second}

-- what holds at the loop's head, the first i codes done
pub record Done (h : History) (codes : List Code) (old out : List ℤ) (last : History) (i : ℕ) : Type 0 where
  pub reach : i ≤ length old
  pub same : length out ≡ length old
  pub stored : out ≡ filled (samples_of sample_of h codes) old i
  pub history : last ≡ history_after sample_of h (take i codes)

module _ (h : History) (codes : List Code) (old : List ℤ) where
  pub turn : (out : List ℤ) (last : History) (i : ℕ) (x d : Code) (y : ℤ) (next : History) → length codes ≡ length old → i < length old
      → Done h codes old out last i → x ≡ get_or codes i d → y ≡ sample_of last x → next ≡ after sample_of last x
      → Done h codes old (set out i y) next (i + 1)
  turn out last i x d y next l k done e q r =
      record {
        reach = omega arith;
        same = length-set out i y ∙ done.same;
        stored =
            fill_more (samples_of sample_of h codes) old out i y (pos 0) done.stored
            (q ∙ (λ j. sample_of (done.history j) (e j)) ∙ sym (sample_at_lem sample_of h codes i d (omega arith)))
            (omega (arith, length_samples sample_of h codes)) k;
        history = r ∙ (λ j. after sample_of (done.history j) (e j)) ∙ sym (history_next sample_of h codes i d (omega arith));
      }

  pub finish : (out : List ℤ) (last : History) (i : ℕ) → length codes ≡ length old → i ≡ length old
      → Done h codes old out last i → (out ≡ samples_of sample_of h codes) × (last ≡ history_after sample_of h codes)
  finish out last i l k done = (
    fill_all (samples_of sample_of h codes) old out i done.stored (length_samples sample_of h codes ∙ l)
        (k ∙ sym (length_samples sample_of h codes ∙ l)),
    done.history ∙ ap (history_after sample_of h) (take_all i codes (omega arith)),
  )

-- a run of a frame's codes, as many as the list has places: the two of a byte, and the end
module _ (h : History) (e : ℕ) (c1 c2 : ℤ) (frame : List ℕ) (old : List ℤ) (eight : length frame ≡ 8) (fits : length old ≤ 14) where
  abbrev codes : List Code
  codes = take (length old) (codes_by e c1 c2 frame)

  all : length codes ≡ length old
  all = taken_long (codes_by e c1 c2 frame) (length old) (codes_by_long e c1 c2 frame eight) fits

  -- what the code at a nibble gives
  pub record Gave (last : History) (nibble : ℕ) (y : ℤ) (next : History) : Type 0 where
    pub sample : y ≡ sample_of last (code e c1 c2 nibble)
    pub history : next ≡ after sample_of last (code e c1 c2 nibble)

  -- the byte may be named otherwise than the number of turns
  pub turn_first :
      (out : List ℤ) (last : History) (i k b : ℕ) (y : ℤ) (next : History) → i ≡ k → k * 2 < length old
      → Done h codes old out last (i * 2) → b ≡ first_nibble (get_or frame (k + 1) 0) → Gave last b y next
      → Done h codes old (set out (k * 2) y) next (k * 2 + 1)
  turn_first out last i k b y next same less done q g =
      turn h codes old out last (k * 2) (code e c1 c2 b) (code e c1 c2 0) y next all less
      (subst (λ (n : ℕ). Done h codes old out last (n * 2)) same done)
      (ap (code e c1 c2) q ∙ code_first e c1 c2 frame (length old) k eight fits less) g.sample g.history

  pub turn_second :
      (out : List ℤ) (last : History) (i b : ℕ) (y : ℤ) (next : History) → i * 2 + 1 < length old → Done h codes old out last (i * 2 + 1)
      → b ≡ second_nibble (get_or frame (i + 1) 0) → Gave last b y next → Done h codes old (set out (i * 2 + 1) y) next ((i + 1) * 2)
  turn_second out last i b y next k done q g =
      subst (Done h codes old (set out (i * 2 + 1) y) next) even
      (turn h codes old out last (i * 2 + 1) (code e c1 c2 b) (code e c1 c2 0) y next all k done
      (ap (code e c1 c2) q ∙ code_second e c1 c2 frame (length old) i eight fits k) g.sample g.history)
    where
      even : i * 2 + 1 + 1 ≡ (i + 1) * 2
      even = omega arith

  pub finish_frame :
      (out : List ℤ) (last : History) (i : ℕ) → i ≡ length old → Done h codes old out last i
      → (out ≡ samples_of sample_of h codes) × (last ≡ history_after sample_of h codes)
  finish_frame out last i k done = finish h codes old out last i all k done
