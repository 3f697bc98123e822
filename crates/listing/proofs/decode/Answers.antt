-- `listing::decode` meets its contract: the decoder refuses exactly an input that is not complete. Assumes nothing.
use mathlib.Core.Path.{◌≡◌, sym, ap, ◌∙◌}
use mathlib.Core.Bool.{true, false}
use mathlib.Core.List.{List, ◌++◌}
use mathlib.Core.Logic.{◌⊎◌, inl, inr, ⊎_elim}
use Prim.Native.Nat.{ℕ, ◌+◌, ◌≤◌}
use native.Mathlib.Decide.{ℕ_discrete}
use native.Mathlib.Omega.{arith}
use lib.IntN.{ℤ}
use lib.ListN.{length, length-append}
use borrow.Author.Rules.{rules}
use borrow.Author.Tests.{eq-eqb, ne_eqb}
use Rattle.std.proofs.lemmas.List.{append-nil}
use Rattle.lists.proofs.Bools.{cond_yes, cond_no}
use Rattle.lists.proofs.Walk.{drop_end}
use Rattle.adpcm.specs.declared.History.{History}
use Rattle.adpcm.specs.Decoded.{Decoded}
use Rattle.adpcm.specs.Code.{decoded_samples, decoded_history}
use Rattle.adpcm.specs.Adpcm.{sample_of, refused, decode_answer, decode_output}
use Rattle.adpcm.proofs.Nine.{odd, well}
use Rattle.listing.specs.Sizes.{header, most_samples, frame_bytes}
use Rattle.listing.specs.Inner.{DecodesTo}
use Rattle.listing.specs.Listing.{coefficients_in, history_in, count_in, complete, samples_in, last_history_in}
use Rattle.listing.proofs.Header.{same_coefficients, same_history, same_count, same_frames}
use Rattle.listing.proofs.decode.Goals as goal

abbrev number : Decoded → ℕ
number d = d.number

abbrev history : Decoded → History
history d = d.history

module _ (first frames : List ℕ) (h : length first ≡ header) (cs : List ℤ) (before : History) (old : List ℤ)
    (ce : cs ≡ coefficients_in first) (be : before ≡ history_in first) (counted : length old ≡ count_in first)
    (few : length old ≤ most_samples) where
  same : length old ≡ count_in (first ++ frames)
  same = counted ∙ same_count first frames h

  -- the decoder's test and the input's, one of which is on where the other is off
  abbrev Told : Type 0
  Told =
      ((refused (length frames) (length old) (length old) ≡ true) × (complete (first ++ frames) ≡ false))
      ⊎ ((refused (length frames) (length old) (length old) ≡ false) × (complete (first ++ frames) ≡ true))

  told : Told
  told = elim (ℕ_discrete (length frames) (frame_bytes (length old))) [
    | no e ↦ inl (odd _ _ _ (omega arith) e, ne_eqb _ _ (λ q. e (omega (arith, q, long, same))))
    | yes e ↦ inr (well _ _ _ (omega arith) e (omega arith), eq-eqb _ _ (omega (arith, e, long, same)))
  ]
    where
      long : length (first ++ frames) ≡ header + length frames
      long = length-append first frames ∙ ap (λ (n : ℕ). n + length frames) h

  nine : refused (length frames) (length old) (length old) ≡ true → number (decode_answer cs before frames (length old) old) ≡ 9
  nine t = ap number (cond_yes _ _ t)

  module _ (out : List ℤ) (last : History) (ok : number (decode_answer cs before frames (length old) old) ≡ 0)
      (o : out ≡ decode_output cs before frames (length old) old)
      (a : last ≡ history (decode_answer cs before frames (length old) old)) where
    pub decoded : DecodesTo (first ++ frames) out last
    unfolding samples_in last_history_in
    decoded = ⊎_elim (λ t. absurd (omega (arith, ok, nine t.0))) served told
      where
        served : (refused (length frames) (length old) (length old) ≡ false) × (complete (first ++ frames) ≡ true)
            → DecodesTo (first ++ frames) out last
        served t = record {
          whole = t.1;
          made =
              o ∙ cond_no _ _ t.0
              ∙ ap (λ (l : List ℤ). decoded_samples sample_of cs before frames (length old) ++ l) (drop_end old (length old) (omega arith))
              ∙ append-nil _
              ∙ (λ j. decoded_samples sample_of (cse j) (bse j) (same_frames first frames h j) (same j));
          after =
              a ∙ ap history (cond_no _ _ t.0)
              ∙ (λ j. decoded_history sample_of (cse j) (bse j) (same_frames first frames h j) (same j));
        }
          where
            cse : cs ≡ coefficients_in (first ++ frames)
            cse = ce ∙ same_coefficients first frames h

            bse : before ≡ history_in (first ++ frames)
            bse = be ∙ same_history first frames h

pub returns-clause-decoded : goal.returns-clause-decoded
returns-clause-decoded c =
    let a = c.args in
    let d = c.decode_adpcm in
    decoded a.header.now a.frames.now (search rules) c.coefficients-coefficients.result c.history-history.result a.samples.now
    c.coefficients-coefficients.ensures c.history-history.ensures c.requires.counted c.requires.few d.new.samples d.new.history
    (sym c.in_ok-decode_adpcm.ensures.answer) d.ensures.output d.ensures.history
