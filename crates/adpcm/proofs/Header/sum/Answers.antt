-- `adpcm::Header::sum` meets its contract: each product and sum is known with a bound that 64 bits hold, from the bounds of its parts.
-- Assumes nothing.
use mathlib.Core.Path.{◌≡◌}
use lib.IntN.{ℤ, pos, ◌+ℤ◌, ◌*ℤ◌}
use mir.Syntax.{w16, w64}
use mir.Val.{of_z, to_z, SFits}
use mir.Facts.{to_z-of_z}
use Prim.Native.Nat.{ℕ, ◌^◌}
use Rattle.numbers.specs.Within.{Is}
use Rattle.numbers.proofs.Bounds.{is_mul, is_add, is_fits, is_read, is_pos, is_of}
use Rattle.adpcm.specs.Code.{signed_nibble, code, sum_of}
use borrow.Author.Rules.{rules}
use Rattle.adpcm.specs.declared.History.{History}
use Rattle.adpcm.proofs.Header.sum.Goals as goal

-- a local of 64 bits as the code reads it
abbrev R : ℤ → ℤ
R x = to_z w64 (of_z w64 x)

module _ {N S n s : ℤ} (hn : Is 8 N n) (hs : Is 32768 S s) where
  product₁ : Is 262144 (N *ℤ S) (R n *ℤ R s)
  product₁ = is_mul (is_read w64 hn tt) (is_read w64 hs tt)

  product₂ : Is 536870912 (N *ℤ S *ℤ pos 2048) (R (R n *ℤ R s) *ℤ pos 2048)
  product₂ = is_mul (is_read w64 product₁ tt) (is_pos 2048)

  sum₁ : Is 536871936 (N *ℤ S *ℤ pos 2048 +ℤ pos 1024) (R (R (R n *ℤ R s) *ℤ pos 2048) +ℤ pos 1024)
  sum₁ = is_add (is_read w64 product₂ tt) (is_pos 1024)

  sum₂ :
      {P p : ℤ} → Is 1073741824 P p → Is 1610613760 (N *ℤ S *ℤ pos 2048 +ℤ pos 1024 +ℤ P)
      (R (R (R (R n *ℤ R s) *ℤ pos 2048) +ℤ pos 1024) +ℤ R p)
  sum₂ hp = is_add (is_read w64 sum₁ tt) (is_read w64 hp tt)

  sum₃ : {P Q p q : ℤ} → Is 1073741824 P p → Is 1073741824 Q q
      → Is 2684355584 (N *ℤ S *ℤ pos 2048 +ℤ pos 1024 +ℤ P +ℤ Q) (R (R (R (R (R n *ℤ R s) *ℤ pos 2048) +ℤ pos 1024) +ℤ R p) +ℤ R q)
  sum₃ hp hq = is_add (is_read w64 (sum₂ hp) tt) (is_read w64 hq tt)

-- a local of 16 bits, and the sum of the definition
abbrev P16 : ℤ → ℤ
P16 x = to_z w16 (of_z w16 x)

abbrev terms : ℕ → ℕ → ℤ → ℤ → ℤ → ℤ → ℤ
terms e n c1 y1 c2 y2 = signed_nibble n *ℤ pos (2 ^ e) *ℤ pos 2048 +ℤ pos 1024 +ℤ c1 *ℤ y1 +ℤ c2 *ℤ y2

-- the parameters that were passed on are themselves
passed :
    (h : History) (e n : ℕ) (c1 c2 : ℤ) → SFits w16 c1 → SFits w16 h.yn1 → SFits w16 c2 → SFits w16 h.yn2
    → terms e n (P16 c1) (P16 h.yn1) (P16 c2) (P16 h.yn2) ≡ sum_of h (code e c1 c2 n)
unfolding sum_of
passed h e n c1 c2 f1 g1 f2 g2 = λ i. terms e n (to_z-of_z f1 i) (to_z-of_z g1 i) (to_z-of_z f2 i) (to_z-of_z g2 i)

pub overflow_add-result-2 : goal.overflow_add-result-2
overflow_add-result-2 c =
    is_fits w64 (sum₂ c.signed.ensures c.scale.ensures c.product.ensures) tt

pub overflow_add-result-3 : goal.overflow_add-result-3
overflow_add-result-3 c =
    is_fits w64 (sum₃ c.signed.ensures
    c.scale.ensures c.product.ensures c.product-2.ensures) tt

pub returns : goal.returns
returns c =
    let c1 : SFits w16 c.args.self.c1 = search rules in
    let c2 : SFits w16 c.args.self.c2 = search rules in
    let y1 : SFits w16 c.args.h.yn1 = search rules in
    let y2 : SFits w16 c.args.h.yn2 = search rules in
    is_of (passed c.args.h c.args.self.exponent c.args.nibble.bits c.args.self.c1 c.args.self.c2 c1 y1 c2 y2)
    (is_read w64 (sum₃ c.signed.ensures c.scale.ensures c.product.ensures c.product-2.ensures) tt)
