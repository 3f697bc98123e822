-- What the two contracts say is what the theorem of stems asks of its calls; and an outcome that the theorem's calls allow is one that the
-- contracts allow. Assumes nothing.
use mathlib.Core.Path.{◌≡◌, refl, sym, ap, ◌∙◌, subst}
use mathlib.Core.Bool.{Bool}
use mathlib.Core.List.{List, [], ◌∷◌}
use Prim.Native.Nat.{ℕ, zero, suc, ◌<◌}
use native.Mathlib.Decide.{dec_lt}
use native.Mathlib.Omega.{arith}
use lib.ListN.{length, get_or}
use Rattle.std.specs.Prelude.{Err}
use Rattle.refusals.specs.declared.Refusal.TheVariants.{Malformed}
use Rattle.layout.specs.declared.Layout.{Layout}
use Rattle.voice_frame.specs.VoiceFrame.{Answer, served, refused}
use Rattle.stems.specs.Alone.{leaves_alone, OneServed}
use Rattle.stems.specs.Call.{put, serve, Outcome, whole_number, alone_number}
use Rattle.stems.specs.Memory.{Memory, Lent}
use Rattle.stems.specs.Stems.{Frame, still, recorded, before, lent}
use Rattle.stems.specs.Whole.{memory_left, leaves, Listed, AllServed}
use Rattle.stems.specs.declared.Fixed.{Fixed}
use Rattle.stems.proofs.Exist.{runs_exist}
use Rattle.stems.proofs.Stems.{whole_and_stems}
use Rattle.turns.proofs.Contract.{no_refusals}
use Rattle.runs.proofs.Given.{Told, Shown, told_whole, told_alone, shown_refusals, done_by}
use Rattle.runs.specs.Runs.{Done, Ticked, VoiceTicked, AsEnsured, RunOf, outcome_of, lent_at, CallsCompared, CallsRun}

-- ---- a contract says what all that was lent is afterwards

window_left : (n : ℕ) (fx : Fixed) (x : Lent) → (leaves n fx x).memory.window ≡ x.memory.window
unfolding leaves memory_left
window_left zero fx x = refl
window_left (suc n) fx x = refl

put_window : (l : Layout) (second : Bool) (v : ℕ) (a : Answer) (m : Memory) → (put l second v a m).window ≡ m.window
unfolding put
put_window l second v (served g) m = refl
put_window l second v (refused n) m = refl

window_alone : (n : ℕ) (fx : Fixed) (v : ℕ) (x : Lent) → (leaves_alone n fx v x).memory.window ≡ x.memory.window
unfolding leaves_alone serve
window_alone zero fx v x = put_window fx.layout _ v _ x.memory
window_alone (suc n) fx v x = refl

pub as_ensured : AsEnsured
as_ensured = record {
  tick = λ fx x d w e. record {
    number = e.0;
    left = λ i. record {
      memory = record {
        region0 = e.2 i;
        region1 = e.3 i;
        window = (w ∙ sym (window_left (whole_number fx x) fx x)) i;
        records = e.1 i;
        lanes = e.4 i;
      };
      mixes = e.5 i;
    };
    refused = e.6;
  };
  tick_voice = λ fx v x d w e. record {
    number = e.0;
    left = λ i. record {
      memory = record {
        region0 = e.2 i;
        region1 = e.3 i;
        window = (w ∙ sym (window_alone (alone_number fx v x) fx v x)) i;
        records = e.1 i;
        lanes = e.4 i;
      };
      mixes = e.5 i;
    };
    listed = e.6;
  };
}

-- ---- a contract is a call of the theorem

all_call : (fx : Fixed) (x : Lent) (d : Done) → Ticked fx x d → AllServed fx x (outcome_of d)
unfolding outcome_of
all_call fx x d t = record {
  code = t.number;
  left = t.left;
  listed = t.refused;
}

one_call : (fx : Fixed) (v : ℕ) (x : Lent) (d : Done) → VoiceTicked fx v x d → OneServed fx v x (outcome_of d)
unfolding outcome_of
one_call fx v x d t = record { code = t.number; left = t.left; listed = t.listed }

pub calls_compared : CallsCompared
calls_compared fx start typed ok frames writes whole W stem S k h =
    whole_and_stems.holds fx start typed ok frames writes
    (λ j. outcome_of (whole j)) (record { calls = λ j l. all_call fx (lent_at start frames whole j) (whole j) (W j l) })
    (λ v j. outcome_of (stem v j))
    (λ v hv. record { calls = λ j l. one_call fx v (lent_at start frames (stem v) j) (stem v j) (S v hv j l) }) k h

-- ---- and there are such runs

module _ (start : Lent) (frames : List Frame) (outs : ℕ → Outcome) (Call : Lent → Done → Type 0)
    (each : (k : ℕ) → k < length frames → (d : Done) × Call (lent start frames outs k) d × (outcome_of d ≡ outs k)) where
  -- what call k gives back; past the last call anything
  abbrev done_at : (k : ℕ) → Dec (k < length frames) → Done
  done_at k (yes h) = (each k h).0
  done_at k (no n) = record { returned = Err Malformed; after = start }

  abbrev done : ℕ → Done
  done k = done_at k (dec_lt k (length frames))

  done_is : (k : ℕ) → k < length frames → outcome_of (done k) ≡ outs k
  done_is k h = go (dec_lt k (length frames))
    where
      go : (d : Dec (k < length frames)) → outcome_of (done_at k d) ≡ outs k
      go (yes l) = (each k l).2
      go (no n) = absurd (n h)

  same_lent : (k : ℕ) → k < length frames → lent_at start frames done k ≡ lent start frames outs k
  unfolding lent before
  same_lent zero h = refl
  same_lent (suc k) h =
      let e = done_is k (omega arith) in
      λ j. record { memory = recorded (get_or frames (suc k) still) (e j).left.memory; mixes = (e j).left.mixes }

  there_is : (done : ℕ → Done) × RunOf Call start frames done
  there_is = (done, λ k h. subst (λ x. Call x (done k)) (sym (same_lent k h)) (called_at k h (dec_lt k (length frames))))
    where
      called_at : (k : ℕ) → k < length frames → (d : Dec (k < length frames)) → Call (lent start frames outs k) (done_at k d)
      called_at k h (yes l) = (each k l).1
      called_at k h (no n) = absurd (n h)

all_done : (fx : Fixed) (x : Lent) (o : Outcome) → AllServed fx x o → (d : Done) × Ticked fx x d × (outcome_of d ≡ o)
unfolding outcome_of
all_done fx x o a =
    let l = a.listed in
    let r = done_by o (subst Told (sym a.code) (told_whole fx x)) (subst Shown (sym l.is) (shown_refusals (whole_number fx x) fx x l.order))
    (λ n. l.is ∙ no_refusals (whole_number fx x) fx x l.order (λ z. n (a.code ∙ z))) in (
      r.0,
      record {
        number = ap (λ (p : Outcome). p.code) r.1 ∙ a.code;
        left = ap (λ (p : Outcome). p.left) r.1 ∙ a.left;
        refused = subst (Listed fx x) (sym (ap (λ (p : Outcome). p.refusals) r.1)) a.listed;
      },
      r.1,
    )

one_done : (fx : Fixed) (v : ℕ) (x : Lent) (o : Outcome) → OneServed fx v x o → (d : Done) × VoiceTicked fx v x d × (outcome_of d ≡ o)
unfolding outcome_of
one_done fx v x o a =
    let order = v ∷ [] in
    let r =
    done_by o (subst Told (sym a.code) (told_alone fx v x))
    (subst Shown (sym a.listed) (shown_refusals (alone_number fx v x) fx x order))
    (λ n. a.listed ∙ no_refusals (alone_number fx v x) fx x order (λ z. n (a.code ∙ z))) in (
      r.0,
      record {
        number = ap (λ (p : Outcome). p.code) r.1 ∙ a.code;
        left = ap (λ (p : Outcome). p.left) r.1 ∙ a.left;
        listed = ap (λ (p : Outcome). p.refusals) r.1 ∙ a.listed;
      },
      r.1,
    )

pub calls_run : CallsRun
calls_run = record {
  whole = λ fx start frames.
      let run = runs_exist.whole fx start frames in
      there_is start frames run.0 (Ticked fx) (λ k h. all_done fx (lent start frames run.0 k) (run.0 k) (run.1.calls k h));
  stem = λ fx v start frames.
      let run = runs_exist.stem fx v start frames in
      there_is start frames run.0 (VoiceTicked fx v)
      (λ k h. one_done fx v (lent start frames run.0 k) (run.0 k) (run.1.calls k h));
}
