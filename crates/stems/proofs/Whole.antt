-- Every order of serving leaves the same: `every_order`. Each voice's own is what its frame alone leaves there, whichever voices come
-- before and after it, and memory is made up of the voices' own and of what no voice writes. The list of refused voices is that of their
-- answers in memory as the call finds it, in the call's order. Assumes nothing.
use mathlib.Core.Path.{◌≡◌, refl, sym, ap, ◌∙◌, subst}
use mathlib.Core.Bool.{Bool, true, false, cond}
use mathlib.Core.List.{List, Permᴰ}
use Prim.Native.Nat.{ℕ, zero, suc, ◌*◌, ◌<◌}
use lib.Dec.{lit<}
use lib.IntN.{ℤ, pos}
use lib.ListN.{length}
use lib.Seq.{get_or-set_same}
use Rattle.lists.specs.Joined.{joined}
use Rattle.lists.specs.Some.{some}
use Rattle.lists.specs.Splice.{splice}
use Rattle.lists.specs.Tabulate.{tabulate}
use Rattle.lists.proofs.Tabulate.{tabulated}
use Rattle.numbers.specs.Wrap.{wrap32}
use Rattle.voice.specs.Blank.{default_voice}
use Rattle.voice.specs.Malformed.{malformed}
use Rattle.voice_frame.specs.VoiceFrame.{Answer, served, refused, number_of, voice_after, lane_after}
use Rattle.stems.specs.declared.Fixed.{Fixed}
use Rattle.stems.specs.Memory.{Memory, Lent, Typed, lane_length, lane_of, record_of, bytes_of}
use Rattle.stems.specs.Call.{second_read, adds, sum_of, put, serve, serve_all, mixes_in, refusals_in, lengths}
use Rattle.stems.specs.Call.{lengths_number, whole_number, no_mixes, Outcome, called, all_voices}
use Rattle.stems.specs.Inner.{LongAs, Long}
use Rattle.stems.specs.Whole.{gets, region_left, memory_left, mixes_left, leaves, refused_of, refusals}
use Rattle.stems.specs.Whole.{AllServed, EveryOrder}
use Rattle.stems.proofs.Orders.{Order, order}
use Rattle.stems.proofs.Lanes.{own_lane, lanes_joined}
use Rattle.stems.proofs.Shape.{Fits, fits, neither}
use Rattle.stems.proofs.Serve.{good_turn, Same, same_refl}
use Rattle.stems.proofs.Turns.{Turns, long_turns, all_lengths, all_waiting, once_same, refused_in_turn, sums_length, sums_at}
use Rattle.stems.proofs.Blocks.{kind_of, block_at, bytes_after, region_of, is_region_read, region_after_lem}
use Rattle.stems.proofs.Accept.{good}

-- ---- what an answer leaves of its voice's own

module _ (fx : Fixed) (second : Bool) (v : ℕ) (m : Memory) where
  own_record : (x : Answer) → v < length m.records
      → record_of v (put fx.layout second v x m).records ≡ voice_after x (record_of v m.records)
  unfolding put record_of
  own_record (served g) h = get_or-set_same m.records v g.voice default_voice h
  own_record (refused n) h = refl

  lane_after_lem : (x : Answer) → v < 24 → Fits fx (lengths m) → LongAs (lane_length (length m.lanes)) x
      → lane_of v (put fx.layout second v x m).lanes ≡ lane_after x (lane_of v m.lanes)
  unfolding put lengths LongAs
  lane_after_lem (served g) h f q = own_lane v m.lanes g.lane h f.lanes q.0
  lane_after_lem (refused n) h f q = refl

  window_after : (x : Answer) → (put fx.layout second v x m).window ≡ m.window
  unfolding put
  window_after (served g) = refl
  window_after (refused n) = refl

-- ---- what all of them leave

module _ (fx : Fixed) (m : Memory) (f : Fits fx (lengths m)) where
  abbrev second : Bool
  second = second_read fx.layout m

  module _ (long : Long fx second m) (vs : List ℕ) (o : Order vs) where
    after : Memory
    after = serve_all fx second vs m

    turns : Turns fx second vs m
    turns = long_turns fx second vs m m f o.below24 o.distinct long (all_waiting fx second vs m)

    own : (v : ℕ) → v < 24 → Same fx.layout v after (serve fx second v m)
    unfolding after
    own v h = once_same fx second v h vs m m turns (o.one v h) (same_refl fx.layout v m)

    region_is : (which : Bool) → region_of which after ≡ region_left fx m (is_region_read second which) (region_of which m)
    unfolding after region_left
    region_is which = region_after_lem fx second which vs m f long turns o.one ∙ go (is_region_read second which) (region_of which m)
      where
        go : (read : Bool) (region : List ℕ)
            → splice region (block_at fx.layout read)
            (joined 24 (λ v. bytes_after read (gets fx m v) (bytes_of fx.layout v (kind_of read) region)))
            ≡ region_left fx m read region
        go true region = refl
        go false region = refl

    records_are : after.records ≡ tabulate (λ v. voice_after (gets fx m v) (record_of v m.records)) 24
    unfolding after serve lengths record_of
    records_are =
        let all : length after.records ≡ 24 = ap (λ s. s.records) (all_lengths fx second vs m) ∙ f.records in
        tabulated after.records (λ v. voice_after (gets fx m v) (record_of v m.records)) 24 default_voice all
        (λ v h. (own v h).voice ∙ own_record fx second v m (gets fx m v) (subst (λ n. v < n) (sym f.records) h))

    lanes_are : after.lanes ≡ joined 24 (λ v. lane_after (gets fx m v) (lane_of v m.lanes))
    unfolding after serve lengths
    lanes_are =
        let same : length m.lanes ≡ length after.lanes = sym (ap (λ s. s.lanes) (all_lengths fx second vs m)) in
        lanes_joined after.lanes (λ v. lane_after (gets fx m v) (lane_of v m.lanes))
        (subst (λ n. n ≡ 24 * lane_length n) same f.lanes)
        (λ v h. (own v h).lane ∙ lane_after_lem fx second v m (gets fx m v) h f (long v h))

    window_is : after.window ≡ m.window
    unfolding serve
    window_is = (own 0 (lit< tt)).window ∙ window_after fx second 0 m (gets fx m 0)

    memory_is : after ≡ memory_left fx m
    unfolding memory_left
    memory_is = λ i. record {
      region0 = region_is false i;
      region1 = region_is true i;
      window = window_is i;
      records = records_are i;
      lanes = lanes_are i;
    }

    mixes_are : mixes_in fx second vs m no_mixes ≡ mixes_left fx m
    unfolding mixes_left
    mixes_are =
        tabulated (mixes_in fx second vs m no_mixes) (λ i. wrap32 (sum_of 24 (λ v. adds (gets fx m v) i))) 1920 (pos 0)
        (sums_length fx second vs m)
        (λ i h. sums_at fx second vs m turns o.distinct i h ∙ ap (λ (z : ℤ). wrap32 z) (o.sums (λ v. adds (gets fx m v) i)))

    refused_are : refusals_in fx second vs m ≡ refused_of (λ v. number_of (gets fx m v)) vs
    refused_are = refused_in_turn fx second vs m m turns o.distinct (all_waiting fx second vs m)

-- ---- every order, where the lengths are right

module _
    (fx : Fixed) (x : Lent) (e : lengths_number fx (lengths x.memory) (length x.mixes) ≡ 0)
    (long : Long fx (second_read fx.layout x.memory) x.memory) (vs : List ℕ) (p : Permᴰ vs all_voices) where
  room : Fits fx (lengths x.memory)
  room = (fits fx (lengths x.memory) (length x.mixes) e).0

  pub every_order_long : (called 0 fx vs x).left ≡ leaves 0 fx x
  unfolding called leaves after
  every_order_long = λ i. record {
    memory = memory_is fx x.memory room long vs (order p) i;
    mixes = mixes_are fx x.memory room long vs (order p) i;
  }

  pub refusals_order :
      refusals_in fx (second_read fx.layout x.memory) vs x.memory ≡ refused_of (λ v. number_of (gets fx x.memory v)) vs
  refusals_order = refused_are fx x.memory room long vs (order p)

-- ---- every order, of memory that is of its types

module _ (fx : Fixed) (x : Lent) (t : Typed x.memory) (e : whole_number fx x ≡ 0) where
  lengths_right : lengths_number fx (lengths x.memory) (length x.mixes) ≡ 0
  unfolding whole_number
  lengths_right =
      (neither (lengths_number fx (lengths x.memory) (length x.mixes))
      (cond (some (malformed (lane_length (length x.memory.lanes))) x.memory.records) 7 0) e).0

  all_long : Long fx (second_read fx.layout x.memory) x.memory
  all_long v h = (good_turn fx (second_read fx.layout x.memory) v x.memory h (good fx x t e).0).long

module _ (fx : Fixed) (x : Lent) (t : Typed x.memory) (vs : List ℕ) (p : Permᴰ vs all_voices) where
  left_is : (n : ℕ) → whole_number fx x ≡ n → (called n fx vs x).left ≡ leaves n fx x
  unfolding called leaves
  left_is zero e = every_order_long fx x (lengths_right fx x t e) (all_long fx x t e) vs p
  left_is (suc n) e = refl

  refusals_are : (n : ℕ) → whole_number fx x ≡ n → (called n fx vs x).refusals ≡ refusals n fx x vs
  unfolding called refusals
  refusals_are zero e = refusals_order fx x (lengths_right fx x t e) (all_long fx x t e) vs p
  refusals_are (suc n) e = refl

  code_is : (n : ℕ) → (called n fx vs x).code ≡ n
  unfolding called
  code_is zero = refl
  code_is (suc n) = refl

pub every_order : EveryOrder
every_order fx x t vs p = record {
  code = code_is fx x t vs p (whole_number fx x);
  left = left_is fx x t vs p (whole_number fx x) refl;
  listed = record { order = vs; each_once = p; is = refusals_are fx x t vs p (whole_number fx x) refl };
}

-- and a call as the contract has it serves in turn, in some order
pub in_some_order : (fx : Fixed) (x : Lent) → Typed x.memory → (o : Outcome) → (a : AllServed fx x o)
    → o ≡ called (whole_number fx x) fx a.listed.order x
in_some_order fx x t o a =
    let n = whole_number fx x in
    let vs = a.listed.order in
    let p = a.listed.each_once in
    λ i. record {
      code = (a.code ∙ sym (code_is fx x t vs p n)) i;
      refusals = (a.listed.is ∙ sym (refusals_are fx x t vs p n refl)) i;
      left = (a.left ∙ sym (left_is fx x t vs p n refl)) i;
    }
