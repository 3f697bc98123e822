-- One voice's frame in memory: it keeps memory good, it depends on what is v's own alone, and it leaves what is another's where what v is
-- given is as long as v's places. By the laws of a frame, and by stores that fall elsewhere. Assumes nothing.
use mathlib.Core.Path.{◌≡◌, refl, sym, ap, ap₂, ◌∙◌, subst}
use mathlib.Core.Logic.{◌≢◌}
use mathlib.Core.Bool.{Bool, true, false, not, cond}
use mathlib.Core.List.{List, [], ◌∷◌}
use Prim.Native.Nat.{ℕ, zero, suc, ◌+◌, ◌*◌, ◌<◌}
use native.Mathlib.Omega.{arith}
use lib.Dec.{eqb, lit<}
use lib.ListN.{length, get_or, set, length-set}
use lib.Seq.{get_or-set_same, get_or-set_other}
use Rattle.lists.specs.Some.{some, every}
use Rattle.lists.specs.Splice.{part}
use Rattle.lists.proofs.Bools.{or_no, or_neither, cond_either}
use Rattle.lists.proofs.Some.{none_each, every_at, every_set, every_splice, every_part}
use Rattle.lists.proofs.Splice.{part_at, length_part, length_splice, same_splice, other_splice}
use Rattle.little.specs.Little.{at16}
use Rattle.region.specs.Choice.{chosen}
use Rattle.layout.specs.Exactly.{Sound}
use Rattle.layout.specs.declared.Layout.{Layout}
use Rattle.voice.specs.Blank.{default_voice}
use Rattle.voice.specs.Malformed.{malformed}
use Rattle.voice.specs.Range.{is_byte, signed, in_range, sized}
use Rattle.voice.proofs.Range.{in_range_test, default_in_range, sized_test, default_sized}
use Rattle.voice_frame.specs.VoiceFrame.{Given, Answer, served, refused, voice_frame}
use Rattle.voice_laws.specs.Laws.{Right, Kept}
use Rattle.voice_laws.proofs.Frame.{frame_kept}
use Rattle.stems.specs.declared.Fixed.{Fixed}
use Rattle.stems.specs.Memory.{Memory, Typed, lane_length, lane_at, lane_of, record_of, Kind, itsConfiguration, itsStatus}
use Rattle.stems.specs.Memory.{itsCoefficients, theCounter, place_of, bytes_of}
use Rattle.stems.specs.Call.{second_read, fed_in, answer, written, put, serve, lengths, lengths_number}
use Rattle.stems.specs.Inner.{LongAs}
use Rattle.stems.proofs.Lanes.{lane_is, lane_long, same_lane, other_lane}
use Rattle.stems.proofs.Shape.{Fits, fits, apart_configuration, apart_status}

-- ---- good memory: accepted, its records well-formed, its values of their types

pub record Good (fx : Fixed) (m : Memory) : Type 0 where
  pub fit : lengths_number fx (lengths m) 1920 ≡ 0
  pub formed : some (malformed (lane_length (length m.lanes))) m.records ≡ false
  pub typed : Typed m

none_set : {A : Type 0} (test : A → Bool) (xs : List A) (i : ℕ) (x : A) → some test xs ≡ false → test x ≡ false
    → some test (set xs i x) ≡ false
none_set test [] i x e t = refl
none_set test (y ∷ ys) zero x e t = or_no (some test ys) t ∙ (or_neither (test y) (some test ys) e).1
none_set test (y ∷ ys) (suc i) x e t =
    let both = or_neither (test y) (some test ys) e in or_no (some test (set ys i x)) both.0 ∙ none_set test ys i x both.1 t

-- ---- what a served voice writes in a region

module _ (l : Layout) (v : ℕ) (g : Given) where
  length_written : (read : Bool) (region : List ℕ) → length (written l v g read region) ≡ length region
  unfolding written
  length_written true region = length_splice region (place_of l v itsConfiguration).at g.configuration
  length_written false region = length_splice region (place_of l v itsStatus).at g.status

  bytes_written : every is_byte g.configuration ≡ true → every is_byte g.status ≡ true → (read : Bool) (region : List ℕ)
      → every is_byte region ≡ true → every is_byte (written l v g read region) ≡ true
  unfolding written
  bytes_written c s true region e = every_splice is_byte region (place_of l v itsConfiguration).at g.configuration e c
  bytes_written c s false region e = every_splice is_byte region (place_of l v itsStatus).at g.status e s

  same_written : (read : Bool) (u : ℕ) (k : Kind) (x y : List ℕ) → bytes_of l u k x ≡ bytes_of l u k y
      → bytes_of l u k (written l v g read x) ≡ bytes_of l u k (written l v g read y)
  unfolding written bytes_of
  same_written true u k x y e =
      same_splice (place_of l u k).at (place_of l u k).size (place_of l v itsConfiguration).at g.configuration x y e
  same_written false u k x y e =
      same_splice (place_of l u k).at (place_of l u k).size (place_of l v itsStatus).at g.status x y e

put_lengths : (l : Layout) (second : Bool) (v : ℕ) (a : Answer) (m : Memory) → lengths (put l second v a m) ≡ lengths m
unfolding put lengths
put_lengths l second v (refused n) m = refl
put_lengths l second v (served r) m = λ i. record {
  region0 = length_written l v r (not second) m.region0 i;
  region1 = length_written l v r second m.region1 i;
  window = length m.window;
  records = length-set m.records v r.voice i;
  lanes = length_splice m.lanes (lane_at v m.lanes) r.lane i;
}

pub serve_lengths : (fx : Fixed) (second : Bool) (v : ℕ) (m : Memory) → lengths (serve fx second v m) ≡ lengths m
unfolding serve
serve_lengths fx second v m = put_lengths fx.layout second v (answer fx second v m) m

-- v's turn: there is such a voice, the lengths fit, and what v is given is as long as its places
pub record Turn (fx : Fixed) (second : Bool) (v : ℕ) (m : Memory) : Type 0 where
  pub voice : v < 24
  pub fit : Fits fx (lengths m)
  pub long : LongAs (lane_length (length m.lanes)) (answer fx second v m)

-- ---- the bytes that a served voice writes are none of another voice's

module _
    (l : Layout) (first next : ℕ) (sound : Sound first next l) (v u : ℕ) (hv : v < 24) (hu : u < 24) (n : v ≢ u) (r : Given) (L : ℕ)
    (long : LongAs L (served r)) where
  other_written : (own : Bool) (k : Kind) (region : List ℕ) → bytes_of l u k (written l v r own region) ≡ bytes_of l u k region
  unfolding written bytes_of LongAs
  other_written true k region =
      other_splice (place_of l u k).at (place_of l u k).size (place_of l v itsConfiguration).at r.configuration region
      (rw long.1 (apart_configuration l first next sound v u hv hu n k))
  other_written false k region =
      other_splice (place_of l u k).at (place_of l u k).size (place_of l v itsStatus).at r.status region
      (rw long.2 (apart_status l first next sound v u hv hu n k))

module _ (fx : Fixed) where
  pub fitting : (m : Memory) → Good fx m → Fits fx (lengths m)
  fitting m g = (fits fx (lengths m) 1920 g.fit).0

  -- ---- the frame is fed what it asks for

  module _ (second : Bool) (v : ℕ) (m : Memory) (h : v < 24) (g : Good fx m) where
    abbrev L : ℕ
    L = lane_length (length m.lanes)

    -- the region that is read
    abbrev read : List ℕ
    read = cond second m.region1 m.region0

    read_bytes : every is_byte read ≡ true
    read_bytes = cond_either (λ r. every is_byte r ≡ true) second m.region1 m.region0 g.typed.region1 g.typed.region0

    read_length : length read ≡ length m.region0
    unfolding lengths
    read_length =
        cond_either (λ r. length r ≡ length m.region0) second m.region1 m.region0 (sym (fitting m g).layout.same) refl

    lane_length_lem : length (lane_of v m.lanes) ≡ L
    unfolding lengths
    lane_length_lem = lane_long v m.lanes h (fitting m g).lanes

    pub right : Right (fed_in fx second v m)
    unfolding fed_in record_of bytes_of place_of lengths
    right = record {
      formed =
          ap (λ n. malformed n (get_or m.records v default_voice)) lane_length_lem
          ∙ none_each (malformed L) m.records default_voice g.formed v (omega (arith, (fitting m g).records));
      arrays = every_at sized m.records v default_voice g.typed.arrays (sized_test default_voice default_sized);
      range = every_at in_range m.records v default_voice g.typed.records (in_range_test default_voice default_in_range);
      lane_samples =
          subst (λ r. every (signed 16) r ≡ true) (sym (lane_is v m.lanes L refl))
          (every_part (signed 16) (v * L) L m.lanes g.typed.lanes);
      configuration_bytes = every_part is_byte (fx.layout.configurations + 192 * v) 192 read read_bytes;
      configuration_length =
          length_part (fx.layout.configurations + 192 * v) 192 read
          (omega (arith, read_length, (fitting m g).layout.within 0 (lit< tt)));
      coefficients_bytes = every_part is_byte (fx.layout.coefficients + 32 * v) 32 read read_bytes;
      coefficients_length =
          length_part (fx.layout.coefficients + 32 * v) 32 read
          (omega (arith, read_length, (fitting m g).layout.within 2 (lit< tt)));
      window_bytes = g.typed.window;
    }

    pub given_kept : (r : Given) → answer fx second v m ≡ served r → Kept (fed_in fx second v m) r
    unfolding answer
    given_kept r e = frame_kept (fed_in fx second v m) right r e

    -- ---- and memory stays good

    put_formed : (r : Given) → Kept (fed_in fx second v m) r
        → some (malformed L) (set m.records v r.voice) ≡ false
    unfolding fed_in
    put_formed r k =
        none_set (malformed L) m.records v r.voice g.formed
        (ap (λ n. malformed n r.voice) (sym lane_length_lem) ∙ k.formed)

    good_put : (a : Answer) → answer fx second v m ≡ a → Good fx (put fx.layout second v a m)
    unfolding put
    good_put (refused n) e = g
    good_put (served r) e =
        let k : Kept (fed_in fx second v m) r = given_kept r e in
        record {
          fit = ap (λ s. lengths_number fx s 1920) (put_lengths fx.layout second v (served r) m) ∙ g.fit;
          formed =
              ap (λ n. some (malformed (lane_length n)) (set m.records v r.voice))
              (length_splice m.lanes (lane_at v m.lanes) r.lane)
              ∙ put_formed r k;
          typed = record {
            region0 =
                bytes_written fx.layout v r k.configuration_bytes k.status_bytes (not second) m.region0 g.typed.region0;
            region1 = bytes_written fx.layout v r k.configuration_bytes k.status_bytes second m.region1 g.typed.region1;
            window = g.typed.window;
            arrays = every_set sized m.records v r.voice g.typed.arrays k.arrays;
            records = every_set in_range m.records v r.voice g.typed.records k.range;
            lanes = every_splice (signed 16) m.lanes (lane_at v m.lanes) r.lane g.typed.lanes k.lane_samples;
          };
        }

    pub good_serve : Good fx (serve fx second v m)
    unfolding serve
    good_serve = good_put (answer fx second v m) refl

    -- ---- and what it gives is as long as v's places

    answer_long : (a : Answer) → answer fx second v m ≡ a → LongAs L a
    unfolding LongAs fed_in
    answer_long (refused n) e = tt
    answer_long (served r) e =
        let k = given_kept r e in (k.lane_length ∙ lane_length_lem, k.configuration_length ∙ right.configuration_length, k.status_length)

    pub good_turn : Turn fx second v m
    good_turn = record { voice = h; fit = fitting m g; long = answer_long (answer fx second v m) refl }

-- ---- two memories that agree in all that voice v's frame reads or writes

pub record Same (l : Layout) (v : ℕ) (a b : Memory) : Type 0 where
  pub region0 : (k : Kind) → bytes_of l v k a.region0 ≡ bytes_of l v k b.region0
  pub region1 : (k : Kind) → bytes_of l v k a.region1 ≡ bytes_of l v k b.region1
  pub window : a.window ≡ b.window
  pub records : length a.records ≡ length b.records
  pub lanes : length a.lanes ≡ length b.lanes
  pub voice : record_of v a.records ≡ record_of v b.records
  pub lane : lane_of v a.lanes ≡ lane_of v b.lanes

module _ (l : Layout) (v : ℕ) where
  pub same_refl : (m : Memory) → Same l v m m
  same_refl m = record {
    region0 = λ k. refl;
    region1 = λ k. refl;
    window = refl;
    records = refl;
    lanes = refl;
    voice = refl;
    lane = refl;
  }

  -- the counter is read from its two bytes
  same_counter : (x y : List ℕ) → bytes_of l v theCounter x ≡ bytes_of l v theCounter y
      → at16 x l.frame_counter ≡ at16 y l.frame_counter
  unfolding bytes_of place_of
  same_counter x y e = from x ∙ ap (λ s. at16 s 0) e ∙ sym (from y)
    where
      from : (r : List ℕ) → at16 r l.frame_counter ≡ at16 (part l.frame_counter 2 r) 0
      from r =
          let c = l.frame_counter in
          let z : c ≡ c + 0 = omega arith in
          ap₂ (λ x y. x * 256 + y) (sym (part_at c 2 r 1 0 (lit< tt))) (ap (λ n. get_or r n 0) z ∙ sym (part_at c 2 r 0 0 (lit< tt)))

  pub same_choice : (a b : Memory) → Same l v a b → second_read l a ≡ second_read l b
  unfolding second_read
  same_choice a b s =
      ap₂ (λ x y. eqb (chosen x y) 1) (same_counter a.region0 b.region0 (s.region0 theCounter))
      (same_counter a.region1 b.region1 (s.region1 theCounter))

module _ (fx : Fixed) (v : ℕ) where
  same_fed : (second : Bool) (a b : Memory) → Same fx.layout v a b → fed_in fx second v a ≡ fed_in fx second v b
  unfolding fed_in
  same_fed true a b s = λ i. record {
    voice = s.voice i;
    lane = s.lane i;
    configuration = s.region1 itsConfiguration i;
    coefficients = s.region1 itsCoefficients i;
    window = s.window i;
    base = fx.base;
  }
  same_fed false a b s = λ i. record {
    voice = s.voice i;
    lane = s.lane i;
    configuration = s.region0 itsConfiguration i;
    coefficients = s.region0 itsCoefficients i;
    window = s.window i;
    base = fx.base;
  }

  pub same_answer : (second : Bool) (a b : Memory) → Same fx.layout v a b → answer fx second v a ≡ answer fx second v b
  unfolding answer
  same_answer second a b s = ap voice_frame (same_fed second a b s)

  -- the same answer put into both
  same_put : (second : Bool) (x : Answer) (a b : Memory) → v < length a.records → Same fx.layout v a b
      → Same fx.layout v (put fx.layout second v x a) (put fx.layout second v x b)
  unfolding put record_of
  same_put second (refused n) a b h s = s
  same_put second (served r) a b h s = record {
    region0 = λ k. same_written fx.layout v r (not second) v k a.region0 b.region0 (s.region0 k);
    region1 = λ k. same_written fx.layout v r second v k a.region1 b.region1 (s.region1 k);
    window = s.window;
    records = length-set a.records v r.voice ∙ s.records ∙ sym (length-set b.records v r.voice);
    lanes =
        length_splice a.lanes (lane_at v a.lanes) r.lane ∙ s.lanes
        ∙ sym (length_splice b.lanes (lane_at v b.lanes) r.lane);
    voice =
        get_or-set_same a.records v r.voice default_voice h
        ∙ sym (get_or-set_same b.records v r.voice default_voice (subst (λ n. v < n) s.records h));
    lane = same_lane v a.lanes b.lanes s.lanes s.lane r.lane;
  }

  pub same_serve : (second : Bool) (a b : Memory) → Turn fx second v a → Same fx.layout v a b
      → Same fx.layout v (serve fx second v a) (serve fx second v b)
  unfolding serve lengths
  same_serve second a b t s =
      subst (λ x. Same fx.layout v (put fx.layout second v (answer fx second v a) a) (put fx.layout second v x b))
      (same_answer second a b s)
      (same_put second (answer fx second v a) a b (subst (λ n. v < n) (sym t.fit.records) t.voice) s)

  -- another voice served in one of them
  other_put : (second : Bool) (w : ℕ) (a b : Memory) → w < 24 → v < 24 → w ≢ v → Fits fx (lengths a)
      → (x : Answer) → LongAs (lane_length (length a.lanes)) x → Same fx.layout v a b
      → Same fx.layout v (put fx.layout second w x a) b
  unfolding put record_of lengths LongAs
  other_put second w a b hw hv n f (refused m) q s = s
  other_put second w a b hw hv n f (served r) q s =
      let L = lane_length (length a.lanes) in
      let others = other_written fx.layout (length a.region0) (length a.region1) f.layout w v hw hv n r L q in
      record {
        region0 = λ k. others (not second) k a.region0 ∙ s.region0 k;
        region1 = λ k. others second k a.region1 ∙ s.region1 k;
        window = s.window;
        records = length-set a.records w r.voice ∙ s.records;
        lanes = length_splice a.lanes (lane_at w a.lanes) r.lane ∙ s.lanes;
        voice = get_or-set_other a.records w v r.voice default_voice (λ p. n (sym p)) ∙ s.voice;
        lane = other_lane v w a.lanes r.lane n q.0 ∙ s.lane;
      }

  pub other_serve : (second : Bool) (w : ℕ) (a b : Memory) → Turn fx second w a → v < 24 → w ≢ v → Same fx.layout v a b
      → Same fx.layout v (serve fx second w a) b
  unfolding serve
  other_serve second w a b t hv n s = other_put second w a b t.voice hv n t.fit (answer fx second w a) t.long s
