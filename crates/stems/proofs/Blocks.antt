-- What served voices leave in a region: each writes its own place in one block and nothing outside that block, so the region afterwards is
-- the region before with the 24 places joined and spliced in. By induction on the voices served. Assumes nothing.
use mathlib.Core.Path.{◌≡◌, refl, sym, ap, ◌∙◌, subst}
use mathlib.Core.Bool.{Bool, true, false, not}
use mathlib.Core.List.{List, [], ◌∷◌}
use Prim.Native.Nat.{ℕ, ◌+◌, ◌*◌, ◌≤◌, ◌<◌}
use native.Mathlib.Nat.{mul_comm}
use native.Mathlib.Omega.{arith}
use lib.Dec.{lit<}
use lib.ListN.{length}
use Rattle.lists.specs.Joined.{joined}
use Rattle.lists.specs.Splice.{part, splice}
use Rattle.lists.proofs.Joined.{joined_is, rebuilt}
use Rattle.lists.proofs.Splice.{Apart, other_splice, part_splice}
use Rattle.fields.specs.Fields.{configuration, status, total}
use Rattle.layout.specs.declared.Layout.{Layout}
use Rattle.voice_frame.specs.VoiceFrame.{Given, Answer, served, refused, configuration_after, status_after}
use Rattle.stems.specs.declared.Fixed.{Fixed}
use Rattle.stems.specs.Memory.{Memory, lane_length, Kind, itsConfiguration, itsStatus, place_of, bytes_of}
use Rattle.stems.specs.Call.{answer, written, put, serve, serve_all, lengths}
use Rattle.stems.specs.Inner.{LongAs, Long}
use Rattle.stems.specs.Whole.{count}
use Rattle.stems.proofs.Lanes.{lane_end}
use Rattle.stems.proofs.Shape.{Fits, within}
use Rattle.stems.proofs.Serve.{Same, same_refl}
use Rattle.stems.proofs.Turns.{Turns, once_same, all_lengths}

-- ---- what is written in the region that is read (true), and in the other (false)

abbrev pub kind_of : Bool → Kind
kind_of true = itsConfiguration
kind_of false = itsStatus

-- how many bytes a voice has there, and where voice 0's begin
abbrev wide : Bool → ℕ
wide true = total configuration
wide false = total status

abbrev pub block_at : Layout → Bool → ℕ
block_at l true = l.configurations
block_at l false = l.statuses

abbrev text_of : Bool → Given → List ℕ
text_of true g = g.configuration
text_of false g = g.status

abbrev pub bytes_after : Bool → Answer → List ℕ → List ℕ
bytes_after true a bytes = configuration_after a bytes
bytes_after false a bytes = status_after a bytes

-- the region that an answer leaves
abbrev region_after : Layout → Bool → ℕ → Answer → List ℕ → List ℕ
region_after l read v (served g) region = written l v g read region
region_after l read v (refused n) region = region

module _ (l : Layout) (v : ℕ) where
  -- v's place in the block
  abbrev at : Bool → ℕ
  at read = block_at l read + v * wide read

  bytes_are : (read : Bool) (region : List ℕ) → bytes_of l v (kind_of read) region ≡ part (at read) (wide read) region
  unfolding bytes_of place_of
  bytes_are true region = ap (λ n. part (l.configurations + n) 192 region) (mul_comm 192 v)
  bytes_are false region = ap (λ n. part (l.statuses + n) 12 region) (mul_comm 12 v)

  written_is : (read : Bool) (g : Given) (region : List ℕ) → written l v g read region ≡ splice region (at read) (text_of read g)
  unfolding written place_of
  written_is true g region = ap (λ n. splice region (l.configurations + n) g.configuration) (mul_comm 192 v)
  written_is false g region = ap (λ n. splice region (l.statuses + n) g.status) (mul_comm 12 v)

  text_long : (read : Bool) (g : Given) (L : ℕ) → LongAs L (served g) → length (text_of read g) ≡ wide read
  unfolding LongAs
  text_long true g L q = q.1
  text_long false g L q = q.2

  -- in its own place there is what it is given
  own_after : (read : Bool) (L : ℕ) (x : Answer) (region : List ℕ) → LongAs L x → at read + wide read ≤ length region
      → bytes_of l v (kind_of read) (region_after l read v x region) ≡ bytes_after read x (bytes_of l v (kind_of read) region)
  own_after true L (refused n) region q h = refl
  own_after false L (refused n) region q h = refl
  own_after read L (served g) region q h =
      let long = text_long read g L q in
      bytes_are read (written l v g read region)
      ∙ ap (part (at read) (wide read)) (written_is read g region)
      ∙ ap (λ n. part (at read) n (splice region (at read) (text_of read g))) (sym long)
      ∙ part_splice (at read) (text_of read g) region (subst (λ n. at read + n ≤ length region) (sym long) h)
      ∙ given_after read g (bytes_of l v (kind_of read) region)
    where
      given_after : (read : Bool) (g : Given) (bytes : List ℕ) → text_of read g ≡ bytes_after read (served g) bytes
      given_after true g bytes = refl
      given_after false g bytes = refl

  -- outside the block there is what was there
  none_after : (read : Bool) (L : ℕ) (x : Answer) (region : List ℕ) → v < 24 → LongAs L x
      → (b n : ℕ) → Apart (block_at l read) (24 * wide read) b n → part b n (region_after l read v x region) ≡ part b n region
  none_after read L (refused n) region h q b k p = refl
  none_after read L (served g) region h q b k p =
      ap (part b k) (written_is read g region)
      ∙ other_splice b k (at read) (text_of read g) region
      (within _ _ _ _ _ _ _ _ p (omega arith) (omega (arith, text_long read g L q, lane_end (wide read) v 24 h)) (omega arith)
      (omega arith))

-- ---- the two regions in memory: region 1 (true) and region 0 (false)

abbrev pub region_of : Bool → Memory → List ℕ
region_of true m = m.region1
region_of false m = m.region0

-- whether that region is the one that is read, where region 1 is (true) or region 0 is
abbrev pub is_region_read : Bool → Bool → Bool
is_region_read second true = second
is_region_read second false = not second

module _ (fx : Fixed) (second which : Bool) where
  abbrev read : Bool
  read = is_region_read second which

  served_region : (v : ℕ) (m : Memory)
      → region_of which (serve fx second v m) ≡ region_after fx.layout read v (answer fx second v m) (region_of which m)
  unfolding serve put
  served_region v m = go which (answer fx second v m)
    where
      go : (which : Bool) (x : Answer)
          → region_of which (put fx.layout second v x m) ≡ region_after fx.layout (is_region_read second which) v x (region_of which m)
      go true (served g) = refl
      go true (refused n) = refl
      go false (served g) = refl
      go false (refused n) = refl

  outside : (vs : List ℕ) (m : Memory) → Turns fx second vs m
      → (b n : ℕ) → Apart (block_at fx.layout read) (24 * wide read) b n
      → part b n (region_of which (serve_all fx second vs m)) ≡ part b n (region_of which m)
  unfolding serve_all Turns
  outside [] m t b n p = refl
  outside (v ∷ vs) m t b n p =
      outside vs (serve fx second v m) t.1 b n p
      ∙ ap (part b n) (served_region v m)
      ∙ none_after fx.layout v read (lane_length (length m.lanes)) (answer fx second v m) (region_of which m) t.0.voice
      t.0.long b n p

  same_region : (v : ℕ) (a b : Memory) → Same fx.layout v a b → (k : Kind)
      → bytes_of fx.layout v k (region_of which a) ≡ bytes_of fx.layout v k (region_of which b)
  same_region v a b s k = go which
    where
      go : (which : Bool) → bytes_of fx.layout v k (region_of which a) ≡ bytes_of fx.layout v k (region_of which b)
      go true = s.region1 k
      go false = s.region0 k

  same_long : (a b : Memory) → lengths a ≡ lengths b → length (region_of which a) ≡ length (region_of which b)
  unfolding lengths
  same_long a b e = go which
    where
      go : (which : Bool) → length (region_of which a) ≡ length (region_of which b)
      go true = ap (λ s. s.region1) e
      go false = ap (λ s. s.region0) e

  -- the block lies in the region
  block_fits : (m : Memory) → Fits fx (lengths m) → block_at fx.layout read + 24 * wide read ≤ length (region_of which m)
  unfolding lengths
  block_fits m f = go which (is_region_read second which)
    where
      go : (which r : Bool) → block_at fx.layout r + 24 * wide r ≤ length (region_of which m)
      go true true = omega (arith, f.layout.within 0 (lit< tt), f.layout.same)
      go true false = omega (arith, f.layout.within 1 (lit< tt), f.layout.same)
      go false true = omega (arith, f.layout.within 0 (lit< tt))
      go false false = omega (arith, f.layout.within 1 (lit< tt))

  -- the region after each voice has been served once
  pub region_after_lem : (vs : List ℕ) (m : Memory) → Fits fx (lengths m) → Long fx second m → Turns fx second vs m
      → ((v : ℕ) → v < 24 → count v vs ≡ 1)
      → region_of which (serve_all fx second vs m)
      ≡ splice (region_of which m) (block_at fx.layout read)
      (joined 24 (λ v. bytes_after read (answer fx second v m) (bytes_of fx.layout v (kind_of read) (region_of which m))))
  region_after_lem vs m f long t one =
      rebuilt (region_of which m) (region_of which after) _ (block_at l read) (24 * wide read)
      (same_long after m (all_lengths fx second vs m)) (block_fits m f)
      (joined_is (block_at l read) (wide read) 24 (region_of which after) _ each) (outside vs m t)
    where
      l : Layout
      l = fx.layout

      after : Memory
      after = serve_all fx second vs m

      each : (v : ℕ) → v < 24
          → part (block_at l read + v * wide read) (wide read) (region_of which after)
          ≡ bytes_after read (answer fx second v m) (bytes_of l v (kind_of read) (region_of which m))
      each v h =
          sym (bytes_are l v read (region_of which after))
          ∙ same_region v after (serve fx second v m) (once_same fx second v h vs m m t (one v h) (same_refl l v m)) (kind_of read)
          ∙ ap (bytes_of l v (kind_of read)) (served_region v m)
          ∙ own_after l v read (lane_length (length m.lanes)) (answer fx second v m) (region_of which m) (long v h)
          (omega (arith, lane_end (wide read) v 24 h, block_fits m f))
