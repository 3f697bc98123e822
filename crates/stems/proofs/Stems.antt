-- The whole run and the stem runs: `whole_and_stems`. Any run whose calls serve v once keeps what is v's own as v's frames alone leave it,
-- by induction on the frames; the whole run and the stem run of v are two such runs. Assumes nothing.
use mathlib.Core.Path.{◌≡◌, refl, sym, ap, ◌∙◌, subst}
use mathlib.Core.Bool.{Bool}
use mathlib.Core.List.{List, [], ◌∷◌}
use Prim.Native.Nat.{ℕ, zero, suc, ◌<◌}
use native.Mathlib.Omega.{arith}
use lib.Dec.{lit<}
use lib.IntN.{ℤ, +ℤ_idr}
use lib.ListN.{length, get_or}
use Rattle.numbers.specs.Wrap.{wrap32}
use Rattle.layout.specs.declared.Layout.{Layout}
use Rattle.voice_frame.specs.VoiceFrame.{number_of}
use Rattle.stems.specs.declared.Fixed.{Fixed}
use Rattle.stems.specs.Memory.{Memory, Lent, Typed, itsConfiguration, itsStatus, Alike}
use Rattle.stems.specs.Call.{second_read, answer, serve, adds, sum_of, serve_all, number_in, whole_number, Outcome, called}
use Rattle.stems.specs.Whole.{count, AllServed}
use Rattle.stems.specs.Alone.{OneServed}
use Rattle.stems.specs.Stems.{Frame, still, TypedFrame, before, lent, Run, frame_gives, frame_leaves, story, scene, gives}
use Rattle.stems.specs.Stems.{mix_value, Holds, WholeAndStems}
use Rattle.stems.proofs.Orders.{count_alone, Below, Distinct, sum, Order, order, sums_same}
use Rattle.stems.proofs.Serve.{Good, Same, same_refl, same_choice, same_answer}
use Rattle.stems.proofs.Turns.{good_all, Turns, good_turns, once_same, once_number, adds_wrapped, sums_length, sums_at}
use Rattle.stems.proofs.Whole.{in_some_order}
use Rattle.stems.proofs.Alone.{serves_one}
use Rattle.stems.proofs.Accept.{accepted, accepted_one, good, good_recorded, same_recorded}

-- ---- one call that serves v once, and others perhaps

-- the call serves the voices of a list in turn: those below 24, each once, and v is among them
record Serves (fx : Fixed) (v : ℕ) (x : Lent) (o : Outcome) : Type 0 where
  pub voices : List ℕ
  pub one : count v voices ≡ 1
  pub below24 : Below voices
  pub distinct : Distinct voices
  pub is : o ≡ called 0 fx voices x

all_serves : (fx : Fixed) (x : Lent) (o : Outcome) → Typed x.memory → whole_number fx x ≡ 0 → AllServed fx x o
    → (v : ℕ) → v < 24 → Serves fx v x o
all_serves fx x o t e a v h =
    let r : Order a.listed.order = order a.listed.each_once in
    record {
      voices = a.listed.order;
      one = r.one v h;
      below24 = r.below24;
      distinct = r.distinct;
      is = in_some_order fx x t o a ∙ ap (λ n. called n fx a.listed.order x) e;
    }

one_serves : (fx : Fixed) (v : ℕ) (x : Lent) (o : Outcome) → v < 24 → whole_number fx x ≡ 0 → OneServed fx v x o → Serves fx v x o
unfolding count
one_serves fx v x o h e a = record {
  voices = v ∷ [];
  one = count_alone v;
  below24 = (h, tt);
  distinct = (refl, tt);
  is = serves_one fx v x o a ∙ ap (λ n. called n fx (v ∷ []) x) (accepted_one fx v x h e);
}

-- ---- a run of such calls, beside v's frames taken in turn

module _
    (fx : Fixed) (start : Lent) (typed : Typed start.memory) (ok : whole_number fx start ≡ 0) (frames : List Frame)
    (writes : (k : ℕ) → k < length frames → TypedFrame (get_or frames k still)) where
  module _
      (v : ℕ) (hv : v < 24) (outs : ℕ → Outcome)
      (serves :
      (k : ℕ) → k < length frames → Typed (lent start frames outs k).memory → whole_number fx (lent start frames outs k) ≡ 0
      → Serves fx v (lent start frames outs k) (outs k)) where
    -- what is lent beside what v's frame meets
    record Met (x : Lent) (m : Memory) : Type 0 where
      pub memory : Good fx x.memory
      pub mixes : length x.mixes ≡ 1920
      pub same : Same fx.layout v x.memory m

    write : (k : ℕ) → k < length frames → Met (before start outs k) (story fx v start.memory frames k)
        → Met (lent start frames outs k) (scene fx v start.memory frames k)
    unfolding lent scene
    write k h m = record {
      memory = good_recorded fx (get_or frames k still) (before start outs k).memory (writes k h) m.memory;
      mixes = m.mixes;
      same =
          same_recorded fx.layout v (get_or frames k still) (before start outs k).memory (story fx v start.memory frames k) m.same;
    }

    turns : (x : Lent) (m : Memory) (o : Outcome) → Met x m → (s : Serves fx v x o)
        → Turns fx (second_read fx.layout x.memory) s.voices x.memory
    turns x m o t s = good_turns fx (second_read fx.layout x.memory) s.voices x.memory s.below24 t.memory

    call : (x : Lent) (m : Memory) (o : Outcome) → Met x m → Serves fx v x o → Met o.left (frame_leaves fx v m)
    unfolding called frame_leaves
    call x m o t s = subst (λ p. Met p.left (frame_leaves fx v m)) (sym s.is) (record {
      memory = good_all fx second s.voices x.memory s.below24 t.memory;
      mixes = sums_length fx second s.voices x.memory;
      same =
          subst (λ c. Same fx.layout v (serve_all fx second s.voices x.memory) (serve fx c v m))
          (same_choice fx.layout v x.memory m t.same)
          (once_same fx second v hv s.voices x.memory m (turns x m o t s) s.one t.same);
    })
      where
        second : Bool
        second = second_read fx.layout x.memory

    met : (k : ℕ) → k < length frames → Met (lent start frames outs k) (scene fx v start.memory frames k)
    unfolding before story scene
    met zero h =
        let g = good fx start typed ok in
        write zero h (record { memory = g.0; mixes = g.1; same = same_refl fx.layout v start.memory })
    met (suc k) h =
        let m = met k (omega arith) in
        let x = lent start frames outs k in
        write (suc k) h
        (call x (scene fx v start.memory frames k) (outs k) m
        (serves k (omega arith) m.memory.typed (accepted fx x m.memory m.mixes)))

    served_once : (k : ℕ) → k < length frames → Serves fx v (lent start frames outs k) (outs k)
    served_once k h =
        let m = met k h in serves k h m.memory.typed (accepted fx (lent start frames outs k) m.memory m.mixes)

    alike : {a b : Memory} → Same fx.layout v a b → Alike fx.layout v a b
    alike q = record {
      voice = q.voice;
      lane = q.lane;
      configuration0 = q.region0 itsConfiguration;
      configuration1 = q.region1 itsConfiguration;
      status0 = q.region0 itsStatus;
      status1 = q.region1 itsStatus;
    }

    held : (k : ℕ) → k < length frames → Holds fx start.memory frames k v (outs k)
    unfolding called story scene gives frame_gives
    held k h = record {
      code = ap (λ o. o.code) s.is;
      mixes = (call x m (outs k) t s).mixes;
      memory = alike (call x m (outs k) t s).same;
      number =
          ap (λ o. number_in v o.refusals) s.is
          ∙ once_number fx second v hv s.voices x.memory m (turns x m (outs k) t s) s.one t.same
          ∙ ap (λ c. number_of (answer fx c v m)) (same_choice fx.layout v x.memory m t.same);
    }
      where
        x : Lent
        x = lent start frames outs k

        m : Memory
        m = scene fx v start.memory frames k

        t : Met x m
        t = met k h

        s : Serves fx v x (outs k)
        s = served_once k h

        second : Bool
        second = second_read fx.layout x.memory

    -- what v adds in the run's memory is what it adds by its frames alone
    adds_same : (k : ℕ) → k < length frames → (i : ℕ)
        → adds (frame_gives fx v (lent start frames outs k).memory) i ≡ adds (gives fx v start.memory frames k) i
    unfolding frame_gives gives
    adds_same k h i =
        let x : Memory = (lent start frames outs k).memory in
        let m : Memory = scene fx v start.memory frames k in
        let q : Same fx.layout v x m = (met k h).same in
        ap (λ y. adds y i)
        (same_answer fx v (second_read fx.layout x) x m q ∙ ap (λ c. answer fx c v m) (same_choice fx.layout v x m q))

    -- the mixes: the sum of what the call's voices add
    mixes_sum : (k : ℕ) (h : k < length frames) (i : ℕ) → i < 1920
        → mix_value i (outs k)
        ≡ wrap32 (sum (λ w. adds (frame_gives fx w (lent start frames outs k).memory) i) (served_once k h).voices)
    unfolding called frame_gives
    mixes_sum k h i hi =
        let x : Lent = lent start frames outs k in
        let t : Met x (scene fx v start.memory frames k) = met k h in
        let s : Serves fx v x (outs k) = served_once k h in
        let second = second_read fx.layout x.memory in
        ap (λ o. mix_value i o) s.is
        ∙ sums_at fx second s.voices x.memory (turns x (scene fx v start.memory frames k) (outs k) t s) s.distinct i hi

  -- ---- the stem runs

  module _ (stem : ℕ → ℕ → Outcome) (S : (v : ℕ) → v < 24 → Run (OneServed fx v) start frames (stem v)) where
    stem_serves : (v : ℕ) → v < 24 → (k : ℕ) → k < length frames → Typed (lent start frames (stem v) k).memory
        → whole_number fx (lent start frames (stem v) k) ≡ 0 → Serves fx v (lent start frames (stem v) k) (stem v k)
    stem_serves v hv k h t e = one_serves fx v (lent start frames (stem v) k) (stem v k) hv e ((S v hv).calls k h)

    stem_held : (k : ℕ) → k < length frames → (v : ℕ) → v < 24 → Holds fx start.memory frames k v (stem v k)
    stem_held k h v hv = held v hv (stem v) (stem_serves v hv) k h

    stem_adds : (k : ℕ) → k < length frames → (v : ℕ) → v < 24 → (i : ℕ) → i < 1920
        → mix_value i (stem v k) ≡ adds (gives fx v start.memory frames k) i
    unfolding sum stem_serves one_serves served_once frame_gives
    stem_adds k h v hv i hi =
        let x : Lent = lent start frames (stem v) k in
        mixes_sum v hv (stem v) (stem_serves v hv) k h i hi
        ∙ ap (λ (z : ℤ). wrap32 z) (+ℤ_idr (adds (frame_gives fx v x.memory) i))
        ∙ adds_wrapped fx (second_read fx.layout x.memory) v x.memory hv (met v hv (stem v) (stem_serves v hv) k h).memory i
        ∙ adds_same v hv (stem v) (stem_serves v hv) k h i

    -- ---- and the whole run

    module _ (whole : ℕ → Outcome) (W : Run (AllServed fx) start frames whole) where
      whole_serves : (v : ℕ) → v < 24 → (k : ℕ) → k < length frames → Typed (lent start frames whole k).memory
          → whole_number fx (lent start frames whole k) ≡ 0 → Serves fx v (lent start frames whole k) (whole k)
      whole_serves v hv k h t e = all_serves fx (lent start frames whole k) (whole k) t e (W.calls k h) v hv

      whole_held : (k : ℕ) → k < length frames → (v : ℕ) → v < 24 → Holds fx start.memory frames k v (whole k)
      whole_held k h v hv = held v hv whole (whole_serves v hv) k h

      sums : (k : ℕ) → k < length frames → (i : ℕ) → i < 1920 → mix_value i (whole k) ≡ wrap32 (sum_of 24 (λ v. mix_value i (stem v k)))
      unfolding whole_serves all_serves served_once
      sums k h i hi =
          mixes_sum 0 (lit< tt) whole (whole_serves 0 (lit< tt)) k h i hi
          ∙ ap (λ (z : ℤ). wrap32 z)
          ((order (W.calls k h).listed.each_once).sums (λ v. adds (frame_gives fx v (lent start frames whole k).memory) i)
          ∙ sums_same _ _ 24 (λ v hv. adds_same v hv whole (whole_serves v hv) k h i ∙ sym (stem_adds k h v hv i hi)))

meet : {l : Layout} {v : ℕ} {a b c : Memory} → Alike l v a c → Alike l v b c → Alike l v a b
meet p q = record {
  voice = p.voice ∙ sym q.voice;
  lane = p.lane ∙ sym q.lane;
  configuration0 = p.configuration0 ∙ sym q.configuration0;
  configuration1 = p.configuration1 ∙ sym q.configuration1;
  status0 = p.status0 ∙ sym q.status0;
  status1 = p.status1 ∙ sym q.status1;
}

pub whole_and_stems : WholeAndStems
whole_and_stems = record {
  holds = λ fx start typed ok frames writes whole W stem S k h.
      let in_whole = whole_held fx start typed ok frames writes stem S whole W k h in
      let in-stem = stem_held fx start typed ok frames writes stem S k h in
      record {
        whole_holds = in_whole;
        stem_holds = in-stem;
        memory = λ v hv. meet (in_whole v hv).memory (in-stem v hv).memory;
        number = λ v hv. (in_whole v hv).number ∙ sym (in-stem v hv).number;
        stem_adds = stem_adds fx start typed ok frames writes stem S k h;
        sums = sums fx start typed ok frames writes stem S whole W k h;
      };
}
