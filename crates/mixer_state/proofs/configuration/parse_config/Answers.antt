-- `mixer_state::configuration::parse_config` meets its contract: each callee says its part of the definition. Assumes nothing.
use Rattle.std.proofs.Common.{ℕ, List, [], ◌∷◌, ◌≡◌, ◌<◌, refl, sym, ap, ◌∙◌, cond, eqb, not, length, get_or, arith, rules}
use Rattle.std.specs.Float.Ieee.{Float, nan}
use borrow.Author.Tests.{eq-eqb, ne_eqb}
use Rattle.numbers.specs.Literals.{+0}
use Rattle.numbers.specs.Bits.{gain}
use Rattle.fields.specs.Flags.{flagged}
use Rattle.lists.proofs.Bools.{cond_yes, cond_no}
use Rattle.lists.proofs.Walk.{get_d_any}
use Rattle.mixer_state.specs.Configuration.{configured}
use Rattle.mixer_state.proofs.configuration.parse_config.Goals as goal

-- none of the volumes is read past their end
kept : (v : List Float) (k : ℕ) → length v ≡ 3 → k < 3 → get_or v k nan ≡ get_or v k +0
kept v k three h = get_d_any v k nan +0 (omega arith)

-- a field by the dirty word, by what was read of it, and by what it was
by : {A : Type 0} {n m : ℕ} (bit : ℕ) {w x y z : A} → n ≡ m → w ≡ x → y ≡ z → cond (flagged n bit) w y ≡ cond (flagged m bit) x z
by bit e r q = λ j. cond (flagged (e j) bit) (r j) (q j)

-- a switch is on at any word but 0
switch : {n m : ℕ} → n ≡ m → not (eqb n 0) ≡ not (eqb m 0)
switch e = λ j. not (eqb (e j) 0)

pub returns-then-flags-eq0 : goal.returns-then-flags-eq0
unfolding configured
returns-then-flags-eq0 c =
    sym (cond_yes _ _ (sym (ap (λ (n : ℕ). eqb n 0) c.read32-flags.ensures) ∙ eq-eqb _ _ c.if-flags-eq0.true))

pub returns : goal.returns
unfolding configured
returns c =
    let d = c.read32-flags.ensures in
    let three : length c.args.mixer.volume ≡ 3 = search rules in
    let master = c.changed.ensures ∙ by 0x1_0000 d (c.gain_of-master.ensures ∙ ap gain c.read32.ensures) (kept _ 0 three (omega arith)) in
    let first =
    c.changed-2.ensures ∙ by 0x100_0000 d (c.gain_of-first.ensures ∙ ap gain c.read32-2.ensures) (kept _ 1 three (omega arith)) in
    let second =
    c.changed-3.ensures ∙ by 0x200_0000 d (c.gain_of-second.ensures ∙ ap gain c.read32-3.ensures) (kept _ 2 three (omega arith)) in
    let on = c.changed-4.ensures ∙ by 0x100 d (switch c.read16-on.ensures) refl in
    let also_on = c.changed-5.ensures ∙ by 0x200 d (switch c.read16-also_on.ensures) refl in
    let output = c.changed-6.ensures ∙ by 0x400_0000 d c.output_of.ensures refl in
    (λ j. record { volume = master j ∷ first j ∷ second j ∷ []; aux = on j ∷ also_on j ∷ []; output = output j })
    ∙ sym (cond_no _ _ (sym (ap (λ (n : ℕ). eqb n 0) d) ∙ ne_eqb _ _ c.if-flags-eq0.false))
