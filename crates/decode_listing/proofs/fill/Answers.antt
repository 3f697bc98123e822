-- `decode_listing::fill` meets its contract: what one read put behind the bytes that came before is the next that the input gave up.
-- Assumes nothing.
use Rattle.std.proofs.Common.{◌≡◌, ℕ, ◌+◌, ◌≤◌, List, ◌++◌, length, take, drop, rules, ap, ◌∙◌, sym, subst, le_refl, drop_at}
use Rattle.std.proofs.Common.{length-take-le}
use Rattle.std.proofs.lemmas.Slice.{take-put_mid_below}
use Rattle.std.specs.Io.KnownBytes.{Consumes}
use Rattle.std.proofs.KnownBytes.{Consumes-trans}
use borrow.Rule.Slice.PartMut.{put_mid, post_of}
use lib.Seq.{take-add, take-append-le}
use Rattle.decode_listing.proofs.fill.Goals as goal

-- the first bytes where some were put behind `a` of them
behind :
    (a k n : ℕ) (xs ys : List ℕ) → a ≤ length xs → n ≤ length ys → take a xs ++ take n ys ≡ take (a + n) (put_mid a k xs ys)
behind a k n xs ys within fits =
    (λ j. sym front j ++ sym part j) ∙ sym (take-add a n (put_mid a k xs ys))
  where
    front : take a (put_mid a k xs ys) ≡ take a xs
    front = take-put_mid_below _ _ _ _ _ (le_refl _) within

    part : take n (drop a (put_mid a k xs ys)) ≡ take n ys
    part = ap (take n) (drop_at (take a xs) (ys ++ post_of a k xs) a (length-take-le a xs within))
        ∙ take-append-le n ys (post_of a k xs) fits

pub loop-got-preserved : goal.loop-got-preserved
loop-got-preserved g c =
    let l = c.loop-got in
    let fits : c.in_ok-n.n ≤ length c.read.new.buf = search rules in record {
      inside = search rules;
      bytes = subst (Consumes _ _) (behind l.got _ c.in_ok-n.n l.buffer c.read.new.buf l.invariant.inside fits)
          (Consumes-trans _ _ _ _ _ l.invariant.bytes c.in_ok-n.ensures.bytes.0);
    }
