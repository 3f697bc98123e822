-- The laws of text put piece after piece: two puts, the second where the first ended, are one of both texts. Assumes nothing.
use mathlib.Core.Path.{◌≡◌, sym, ◌∙◌, subst}
use mathlib.Core.List.{List, ◌++◌}
use Prim.Native.Nat.{ℕ, ◌+◌}
use native.Mathlib.Omega.{arith}
use lib.ListN.{length, length-append}
use Rattle.lists.specs.Splice.{splice}
use Rattle.lists.proofs.Splice.{splice_append}
use Rattle.listing.specs.Text.{newline}
use Rattle.listing.specs.Inner.{Put}

pub put_more :
    {old first mid second new : List ℕ} {a b e : ℕ} → Put old a first mid b → Put mid b second new e → Put old a (first ++ second) new e
put_more {old} {first} {mid} {second} {new} {a} p q = record {
  stored = q.stored ∙ (λ j. splice (p.stored j) (p.after j) second) ∙ sym (splice_append old a first second);
  after = omega (arith, p.after, q.after, length-append first second);
}

-- bytes stored at a place are the text that they are
pub put_text : {old bytes text new : List ℕ} {a e : ℕ}
    → bytes ≡ text → new ≡ splice old a bytes → e ≡ a + length bytes → Put old a text new e
put_text {old} {bytes} {text} {new} {a} {e} h p q =
    subst (λ (t : List ℕ). Put old a t new e) h (record { stored = p; after = q })

-- a line is the row of the texts in its columns
pub put_row : {line left first right second : List ℕ} → line ≡ left ++ (right ++ newline) → left ≡ first → right ≡ second
    → line ≡ first ++ (second ++ newline)
put_row e l r = e ∙ (λ j. l j ++ (r j ++ newline))
