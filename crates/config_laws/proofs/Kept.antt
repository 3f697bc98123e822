-- What each step of a configuration keeps the whole keeps: by induction on the steps, and on the entries, of which each fits the lane and
-- finds room. Assumes nothing.
use mathlib.Core.Path.{◌≡◌, refl}
use mathlib.Core.Bool.{Bool, true, false, cond}
use mathlib.Core.List.{List, [], ◌∷◌, Memᴰ}
use Prim.Native.Nat.{ℕ, suc, ◌+◌, ◌<◌, ◌≤◌}
use native.Mathlib.Omega.{arith}
use lib.Dec.{eqb}
use lib.ListN.{length}
use borrow.Author.Tests.{eqb-true}
use Rattle.lists.proofs.Bools.{or_neither}
use Rattle.voice.specs.Blank.{limit}
use Rattle.voice.specs.Long.{too_long, any_too_long}
use Rattle.voice.specs.declared.record.Entry.{Entry}
use Rattle.voice.specs.declared.record.Voice.{Voice}
use Rattle.settings.specs.Dirty.{dirty_in}
use Rattle.config.specs.Parsed.{Configured}
use Rattle.config_laws.specs.Laws.{EachKeeps, WholeKeeps}
use Rattle.config.specs.Parsed.{in_turn, steps, settled, to_add, refusal, parsed, configured}
use Rattle.queueing.specs.Refusal.{refusal_of}
use Rattle.queueing.specs.Queue.{pushed, pushed_all}
use Rattle.queueing.proofs.Served.{room_for, none_long}

module _ (P : Voice → Type 0) where
  pub in_turn_lem : (steps : List (Voice → Voice)) → EachKeeps P steps → (v : Voice) → P v → P (in_turn steps v)
  in_turn_lem [] k v p = p
  in_turn_lem (step ∷ steps) k v p = in_turn_lem steps k.1 (step v) (k.0 v p)

  room_after : (e : Entry) (u : Voice) (n : ℕ) → u.queued + suc n ≤ limit → (pushed e u).queued + n ≤ limit
  unfolding pushed
  room_after e u n h = omega arith

  queued_in_turn : (L : ℕ) (es : List Entry) (u : Voice)
      → ((e : Entry) → Memᴰ e es → too_long L e ≡ false → (u : Voice) → u.queued < limit → P u → P (pushed e u))
      → any_too_long L es ≡ false → u.queued + length es ≤ limit → P u → P (pushed_all es u)
  unfolding pushed_all
  queued_in_turn L [] u k short room p = p
  queued_in_turn L (e ∷ es) u k short room p =
      let both = or_neither (too_long L e) (any_too_long L es) short in
      queued_in_turn L es (pushed e u) (λ x m. k x (Memᴰ.tail m)) both.1 (room_after e u (length es) room)
      (k e (Memᴰ.head refl) both.0 u (omega arith) p)

-- a configuration that is not refused: its entries fit the queue, and each of them fits the lane
module _ (bytes coefficients : List ℕ) (v : Voice) (L : ℕ) (served : refusal bytes coefficients v L ≡ 0) where
  found : refusal_of (settled bytes coefficients v).queued (to_add bytes coefficients v) L ≡ 0
  unfolding refusal
  found = served

  pub entries_fit : (settled bytes coefficients v).queued + length (to_add bytes coefficients v) ≤ limit
  entries_fit = room_for (settled bytes coefficients v).queued (to_add bytes coefficients v) L found

  none_too_long : any_too_long L (to_add bytes coefficients v) ≡ false
  none_too_long = none_long (settled bytes coefficients v).queued (to_add bytes coefficients v) L found

pub whole_keeps : WholeKeeps
unfolding configured parsed settled
whole_keeps P bytes cs v L each entry p = by (eqb (dirty_in bytes) 0) (eqb (refusal bytes cs v L) 0) refl
  where
    after : refusal bytes cs v L ≡ 0 → P (parsed bytes cs v)
    after served =
        queued_in_turn P L (to_add bytes cs v) (settled bytes cs v) entry (none_too_long bytes cs v L served)
        (entries_fit bytes cs v L served)
        (in_turn_lem P (steps bytes cs) each v p)

    by : (clean served : Bool) → eqb (refusal bytes cs v L) 0 ≡ served
        → P (cond {A = Configured} clean (record { number = 0; voice = v })
        (cond served (record { number = 0; voice = parsed bytes cs v }) (record { number = refusal bytes cs v L; voice = v }))).voice
    by true served e = p
    by false true e = after (eqb-true (refusal bytes cs v L) 0 e)
    by false false e = p
