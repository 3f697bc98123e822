-- The definitions agree with every starred case: each side computes. Assumes nothing.
use mathlib.Core.Path.{refl}
use lib.Ieee.{of_int, add, sub, mul, to_signed}
use Rattle.mixing.specs.Interpolate.{interpolate}
use Rattle.adpcm.specs.Code.{sum_of}
use Rattle.adpcm.specs.Adpcm.{sample_of}
use Rattle.adpcm.specs.Public.{public_sum, public_sample}
use Rattle.voice.specs.Blank.{blank_entry}
use Rattle.queue.specs.Removal.{without, removed}
use Rattle.queue.specs.Search.{least, searched}
use Rattle.cases.specs.Starred.{StarredCasesHold}

pub starred_cases_hold : StarredCasesHold
unfolding searched least removed without blank_entry sample_of sum_of public_sample public_sum interpolate of_int add sub mul to_signed
starred_cases_hold = record {
  holds = (
    refl,
    (
      refl,
      (
        refl,
        (
          refl,
          (
            refl,
            (refl, ((refl, refl), ((refl, refl), ((refl, refl), ((refl, refl), (refl, (refl, ((refl, refl), (refl, tt))))))))),
          ),
        ),
      ),
    ),
  );
}
