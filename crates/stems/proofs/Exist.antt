-- There are runs from every start, since what a contract allows is a function of what is lent once an order is fixed; and there is an
-- accepted start, of zero bytes, default voices and silent lanes. Assumes nothing.
use mathlib.Core.Path.{◌≡◌, refl, ap, ◌∙◌}
use mathlib.Core.Bool.{Bool, true, false}
use mathlib.Core.List.Permᴰ
use mathlib.Core.List.{List, [], ◌∷◌}
use Prim.Native.Nat.{ℕ, zero, suc}
use lib.IntN.{ℤ, pos}
use lib.ListN.{length, replicate, length-replicate}
use Rattle.lists.specs.Some.{some, every}
use Rattle.lists.proofs.Bools.{or_no}
use Rattle.lists.proofs.Some.{every_replicate}
use Rattle.voice.specs.Blank.{default_voice}
use Rattle.voice.specs.Malformed.{malformed}
use Rattle.voice.specs.Range.{is_byte, unsigned, signed, in_range, sized}
use Rattle.voice.proofs.Formed.{formed_not_malformed, default_formed}
use Rattle.voice.proofs.Range.{in_range_test, default_in_range, sized_test, default_sized}
use Rattle.stems.specs.declared.Fixed.{Fixed}
use Rattle.stems.specs.Memory.{Memory, Lent, lane_length}
use Rattle.stems.specs.Call.{lengths, lengths_number, whole_number, alone_number, Outcome, all_voices}
use Rattle.stems.specs.Whole.{leaves, refusals, AllServed}
use Rattle.stems.specs.Alone.{leaves_alone, OneServed}
use Rattle.stems.specs.Stems.{Frame, before, lent, RunsExist}
use Rattle.stems.proofs.Serve.{Good}
use Rattle.stems.proofs.Accept.{accepted}

-- a run of calls whose outcome is a function of what they are lent
module _ (outcome : Lent → Outcome) (start : Lent) (frames : List Frame) where
  outs : ℕ → Outcome
  outs zero = outcome (lent start frames (λ k. outcome start) zero)
  outs (suc k) = outcome (lent start frames (λ j. outs k) (suc k))

  outs_is : (k : ℕ) → outs k ≡ outcome (lent start frames outs k)
  unfolding outs lent before
  outs_is zero = refl
  outs_is (suc k) = refl

-- ---- an accepted start

none_replicate : {A : Type 0} (test : A → Bool) (n : ℕ) (x : A) → test x ≡ false → some test (replicate n x) ≡ false
none_replicate test zero x e = refl
none_replicate test (suc n) x e = or_no (some test (replicate n x)) e ∙ none_replicate test n x e

-- the places one after the other
example : Fixed
example = record {
  layout = record {
    configurations = 0;
    statuses = 4608;
    coefficients = 4896;
    frame_counter = 5664;
    mixer_configuration = 5666;
    final_samples = 5710;
    intermediate_samples = 6350;
  };
  base = 0;
}

-- lists that are as long as they are to be, so that none is written out
module _
    (region : List ℕ) (lanes : List ℤ) (bytes : every is_byte region ≡ true) (samples : every (signed 16) lanes ≡ true)
    (region-long : length region ≡ 11470) (lanes-long : length lanes ≡ 2400) where
  blank : Memory
  blank = record { region0 = region; region1 = region; window = []; records = replicate 24 default_voice; lanes = lanes }

  blank_good : Good example blank
  unfolding blank example lengths lengths_number lane_length
  blank_good = record {
    fit = ap (λ s. lengths_number example s 1920) (λ i. record {
      region0 = region-long i;
      region1 = region-long i;
      window = 0;
      records = 24;
      lanes = lanes-long i;
    });
    formed =
        none_replicate (malformed (lane_length (length lanes))) 24 default_voice
        (formed_not_malformed (lane_length (length lanes)) default_voice (default_formed (lane_length (length lanes))));
    typed = record {
      region0 = bytes;
      region1 = bytes;
      window = refl;
      arrays = every_replicate sized 24 default_voice (sized_test default_voice default_sized);
      records = every_replicate in_range 24 default_voice (in_range_test default_voice default_in_range);
      lanes = samples;
    };
  }

-- a byte and a sample of 0
zero_byte : is_byte 0 ≡ true
unfolding unsigned
zero_byte = refl

zero_sample : signed 16 (pos 0) ≡ true
unfolding signed
zero_sample = refl

start : Lent
start = record {
  memory = blank (replicate 11470 0) (replicate 2400 (pos 0)) (every_replicate is_byte 11470 0 zero_byte)
      (every_replicate (signed 16) 2400 (pos 0) zero_sample) (length-replicate {A = ℕ} 11470 0) (length-replicate 2400 (pos 0));
  mixes = replicate 1920 (pos 0);
}

start_good : Good example start.memory
unfolding start
start_good =
    blank_good (replicate 11470 0) (replicate 2400 (pos 0)) (every_replicate is_byte 11470 0 zero_byte)
    (every_replicate (signed 16) 2400 (pos 0) zero_sample) (length-replicate {A = ℕ} 11470 0) (length-replicate 2400 (pos 0))

start_mixes : length start.mixes ≡ 1920
unfolding start
start_mixes = length-replicate 1920 (pos 0)

-- what the contracts allow, the voices listed in their own order
all_served : Fixed → Lent → Outcome
all_served fx x = record {
  code = whole_number fx x;
  refusals = refusals (whole_number fx x) fx x all_voices;
  left = leaves (whole_number fx x) fx x;
}

one_served : Fixed → ℕ → Lent → Outcome
one_served fx v x = record {
  code = alone_number fx v x;
  refusals = refusals (alone_number fx v x) fx x (v ∷ []);
  left = leaves_alone (alone_number fx v x) fx v x;
}

all_allowed : (fx : Fixed) (x : Lent) (o : Outcome) → o ≡ all_served fx x → AllServed fx x o
unfolding all_served
all_allowed fx x o e = record {
  code = ap (λ p. p.code) e;
  left = ap (λ p. p.left) e;
  listed = record { order = all_voices; each_once = Permᴰ.refl all_voices; is = ap (λ p. p.refusals) e };
}

one_allowed : (fx : Fixed) (v : ℕ) (x : Lent) (o : Outcome) → o ≡ one_served fx v x → OneServed fx v x o
unfolding one_served
one_allowed fx v x o e = record { code = ap (λ p. p.code) e; left = ap (λ p. p.left) e; listed = ap (λ p. p.refusals) e }

pub runs_exist : RunsExist
runs_exist = record {
  accepted = (example, start, start_good.typed, accepted example start start_good start_mixes);
  whole = λ fx start frames. (
    outs (all_served fx) start frames,
    record {
      calls = λ k h. all_allowed fx (lent start frames (outs (all_served fx) start frames) k) _ (outs_is (all_served fx) start frames k);
    },
  );
  stem = λ fx v start frames. (
    outs (one_served fx v) start frames,
    record {
      calls = λ k h.
          one_allowed fx v (lent start frames (outs (one_served fx v) start frames) k) _ (outs_is (one_served fx v) start frames k);
    },
  );
}
