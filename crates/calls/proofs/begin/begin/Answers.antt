-- `calls::begin::begin` meets its contract: the region chosen is region 1 if its number is 1, and a fill leaves as many zeros. Assumes
-- nothing.
use Rattle.std.proofs.Common.{◌≡◌, length, ap, ◌∙◌, refl, rules}
use lib.Dec.{eqb}
use lib.IntN.{pos}
use lib.ListN.{replicate}
use Rattle.numbers.specs.Sizes.{MIXES}
use Rattle.region.specs.Choice.{chosen, number_of_region}
use Rattle.stems.specs.Call.{no_mixes}
use Rattle.calls.specs.Begin.{is_second, second_of}
use Rattle.region.specs.declared.Region.{Region}
use Rattle.region.specs.declared.Region.TheVariants.{Zero, One}
use Rattle.calls.proofs.begin.begin.Goals as goal

second_is : (r : Region) → is_second r ≡ eqb (number_of_region r) 1
second_is Zero = refl
second_is One = refl

pub returns-clause-region : goal.returns-clause-region
unfolding second_of
returns-clause-region c =
    let a = c.read16.ensures in
    let b = c.read16-2.ensures in
    second_is c.current_region.result ∙ ap (λ n. eqb n 1) (c.current_region.ensures ∙ (λ j. chosen (a j) (b j)))

pub returns-clause-mixes : goal.returns-clause-mixes
unfolding no_mixes
returns-clause-mixes c =
    let long : length c.args.mixes.now ≡ MIXES = search rules in
    c.fill.ensures.after (λ y e. e) ∙ ap (λ n. replicate n (pos 0)) long
