-- `settings::gains::bit_of` meets its contract: below mix 3 the shift loses no bit. Assumes nothing.
use Rattle.std.proofs.Common.{◌<◌, ℕ, ◌*◌, ◌^◌, arith, subst, sym}
use Rattle.std.proofs.Math.Nat.{mod-eq_of_lt}
use Rattle.std.proofs.Math.Pow.{pow_mono}
use Rattle.std.proofs.lemmas.Nat.{pow_pos}
use Rattle.settings.proofs.gains.bit_of.Goals as goal

kept : (mix : ℕ) → mix < 3 → 33554432 * 2 ^ mix < 4294967296
kept mix below = let most = pow_mono {i = mix} {j = 2} (omega (arith, below)) in omega (arith, most)

pub returns-clause-bit : goal.returns-clause-bit
returns-clause-bit c = mod-eq_of_lt (kept c.args.mix c.requires)

pub returns-clause-some : goal.returns-clause-some
returns-clause-some c =
    let some = pow_pos c.args.mix in
    subst (λ (n : ℕ). 0 < n) (sym (mod-eq_of_lt (kept c.args.mix c.requires))) (omega (arith, some))
