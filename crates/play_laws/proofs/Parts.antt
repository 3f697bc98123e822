-- What holds of each part of a frame holds of the frame: of a dequeue, by what it stores; of the samples one after the other; of a silent
-- frame and of one that plays. Each by the cases of its definition. Assumes nothing.
use mathlib.Core.Path.{◌≡◌, refl, sym, ap, ◌∙◌, subst}
use mathlib.Core.Bool.{Bool, true, false, cond}
use mathlib.Core.List.{List}
use Prim.Native.Nat.{ℕ, zero, suc, ◌≤◌}
use native.Mathlib.Omega.{arith}
use lib.Dec.{eqb}
use lib.IntN.{ℤ}
use lib.ListN.{length, set}
use Rattle.lists.proofs.Bools.{cond_yes, cond_no, clash}
use Rattle.numbers.specs.Sizes.{FRAME_SAMPLES}
use Rattle.adpcm.specs.Adpcm.{sample_of}
use Rattle.adpcm.specs.Code.{decoded_history}
use Rattle.adpcm.specs.declared.History.{History}
use Rattle.voice.specs.Set.{set_voice_history, set_voice_decoded, set_voice_queue}
use Rattle.voice.specs.declared.record.Entry.{Entry}
use Rattle.voice.specs.declared.record.Voice.{Voice}
use Rattle.queue.specs.Played.{mark_played}
use Rattle.queue.specs.Removal.{removed}
use Rattle.queue.specs.Search.{searched}
use Rattle.std.proofs.Common.{Option, None, Some}
use Rattle.dequeue.specs.Dequeue.{entry_at, taken, start_of, begun_at, with_history, begun, decodable, adpcm_in}
use Rattle.dequeue.specs.Dequeue.{decoded_voice, prepared_voice, ready}
use Rattle.dequeue.specs.Dequeue.{dequeued_by, dequeued, dequeued_lane}
use Rattle.play.specs.Play.{Midst, Frame, opened, is_silent, started, switched_off, ended, sounded, begun_next, next, onward}
use Rattle.play.specs.Play.{silent_frame, playing_frame, played}
use Rattle.play.proofs.Going.{none_lane}

-- ---- an entry that begins

-- a record in which an entry begins, of which so many samples are decoded, with a history after them
abbrev pub begins : Entry → Voice → ℕ → History → Voice
begins e u n h = set_voice_decoded n (set_voice_history h (begun_at (start_of e) e u))

module _ (H : History → Type 0)
    (decodes : (h : History) → H h → (cs : List ℤ) (bytes : List ℕ) (n : ℕ) → H (decoded_history sample_of cs h bytes n))
    (window : List ℕ) (base : ℕ) (P : Voice → Type 0) (e : Entry) (u : Voice) (brought : H e.adpcm) (had : H u.history)
    (holds : (n : ℕ) (h : History) → n ≤ e.length → H h → P (begins e u n h)) where
  pub prepared_by : P (prepared_voice window base e (begun e u))
  unfolding prepared_voice decoded_voice begun with_history begun_at
  prepared_by = by e.has_adpcm (decodable window base e)
    where
      x : Voice
      x = begun_at (start_of e) e u

      bytes : List ℕ
      bytes = adpcm_in window base e

      by : (b d : Bool)
          → P (cond d (decoded_voice bytes e.length (cond b (set_voice_history e.adpcm x) x))
          (set_voice_decoded 0 (cond b (set_voice_history e.adpcm x) x)))
      by true true = holds e.length (decoded_history sample_of u.coefficients e.adpcm bytes e.length) (omega arith)
          (decodes e.adpcm brought u.coefficients bytes e.length)
      by true false = holds 0 e.adpcm (omega arith) brought
      by false true = holds e.length (decoded_history sample_of u.coefficients u.history bytes e.length) (omega arith)
          (decodes u.history had u.coefficients bytes e.length)
      by false false = holds 0 u.history (omega arith) had

-- whatever is decoded
pub prepared_any : (window : List ℕ) (base : ℕ) (P : Voice → Type 0) (e : Entry) (u : Voice)
    → ((n : ℕ) (h : History) → P (begins e u n h)) → P (prepared_voice window base e (begun e u))
prepared_any window base P e u holds =
    prepared_by (λ _. Unit {0}) (λ h t cs bytes n. tt) window base P e u tt tt (λ n h l t. holds n h)

-- an entry that is taken is marked, where it loops, or leaves
pub taken_either : (P : Voice → Type 0) (place : ℕ) (v : Voice)
    → ((entry_at place v).looping ≡ true → P (set_voice_queue (set v.queue place (mark_played (entry_at place v))) v))
    → ((entry_at place v).looping ≡ false → P (removed place v))
    → P (taken place v)
unfolding taken
taken_either P place v f g = by (entry_at place v).looping refl
  where
    by : (b : Bool) → (entry_at place v).looping ≡ b
        → P (cond b (set_voice_queue (set v.queue place (mark_played (entry_at place v))) v) (removed place v))
    by true e = f e
    by false e = g e

module _ (window : List ℕ) (base : ℕ) where
  -- a dequeue that found an entry
  pub dequeued_by_lem : (P : Voice → Type 0) (v : Voice)
      → ((place : ℕ) → Some place ≡ searched v.queue v.queued
      → P (prepared_voice window base (entry_at place v) (ready window base place v)))
      → (dequeued window base v).found ≡ true → P (dequeued window base v).voice
  unfolding dequeued
  dequeued_by_lem P v h = by (searched v.queue v.queued) refl
    where
      by : (f : Option ℕ) → f ≡ searched v.queue v.queued → (dequeued_by window base f v).found ≡ true
          → P (dequeued_by window base f v).voice
      by None e t = absurd (clash (sym t))
      by (Some place) e t = h place e

  -- ---- samples

  -- one sample more: of the entry at hand, of the next, or none
  pub next_by : (P : Midst → Type 0) (m : Midst) → P (sounded window base m)
      → ((dequeued window base m.voice).found ≡ true → P (sounded window base (begun_next window base m)))
      → P m → P (next window base m)
  unfolding next
  next_by P m s b p = by (eqb m.voice.remaining 0) (dequeued window base m.voice).found refl
    where
      by : (z f : Bool) → (dequeued window base m.voice).found ≡ f
          → P (cond z (cond f (sounded window base (begun_next window base m)) m) (sounded window base m))
      by false f e = s
      by true true e = b e
      by true false e = p

  -- what one sample keeps so many keep
  pub onward_keeps : (P : Midst → Type 0) → ((m : Midst) → P m → P (sounded window base m))
      → ((m : Midst) → P m → (dequeued window base m.voice).found ≡ true → P (sounded window base (begun_next window base m)))
      → (m : Midst) → P m → (n : ℕ) → P (onward window base n m)
  unfolding onward
  onward_keeps P s b m p zero = p
  onward_keeps P s b m p (suc n) =
      let before = onward_keeps P s b m p n in
      next_by P (onward window base n m) (s (onward window base n m) before) (b (onward window base n m) before) before

  -- ---- a frame

  -- a silent frame dequeues, or switches off and leaves the lane
  pub silent_by : (P : Frame → Type 0) (v : Voice) (lane : List ℤ)
      → ((dequeued window base v).found ≡ true
      → P (record { voice = (dequeued window base v).voice; lane = dequeued_lane window base v lane; produced = 0; dequeues = 1 }))
      → ((dequeued window base v).found ≡ false → P (record { voice = switched_off v; lane = lane; produced = 0; dequeues = 0 }))
      → P (silent_frame window base v lane)
  unfolding silent_frame
  silent_by P v lane f g = by (dequeued window base v).found refl
    where
      by : (b : Bool) → (dequeued window base v).found ≡ b
          → P (record {
            voice = cond b (dequeued window base v).voice (switched_off v);
            lane = dequeued_lane window base v lane;
            produced = 0;
            dequeues = cond b 1 0;
          })
      by true e = f e
      by false e =
          subst (λ (l : List ℤ). P (record { voice = switched_off v; lane = l; produced = 0; dequeues = 0 }))
          (sym (none_lane window base v lane e)) (g e)

  -- how a frame that plays begins, and what it comes to
  abbrev pub reached : Voice → List ℤ → Midst
  reached v lane = onward window base FRAME_SAMPLES (started v lane)

  abbrev pub made_of : Midst → Frame
  made_of m = record { voice = ended m; lane = m.lane; produced = length m.samples; dequeues = m.dequeues }

  pub played_silent : (v : Voice) (lane : List ℤ) → is_silent v ≡ true
      → played window base v lane ≡ silent_frame window base (opened v) lane
  unfolding played
  played_silent v lane e = cond_yes _ _ e

  pub played_plays : (v : Voice) (lane : List ℤ) → is_silent v ≡ false → played window base v lane ≡ made_of (reached v lane)
  unfolding played playing_frame
  played_plays v lane e = cond_no _ _ e

  pub played_by : (P : Frame → Type 0) (v : Voice) (lane : List ℤ)
      → (is_silent v ≡ true → P (silent_frame window base (opened v) lane))
      → (is_silent v ≡ false → P (made_of (reached v lane)))
      → P (played window base v lane)
  played_by P v lane f g = by (is_silent v) refl
    where
      by : (b : Bool) → is_silent v ≡ b → P (played window base v lane)
      by true e = subst P (sym (played_silent v lane e)) (f e)
      by false e = subst P (sym (played_plays v lane e)) (g e)

  -- a silent frame by what the search finds
  pub frame_dequeues : (P : Frame → Type 0) (v : Voice) (lane : List ℤ) (place : ℕ) → is_silent v ≡ true
      → searched v.queue v.queued ≡ Some place
      → ((n : ℕ) (h : History)
      → P (record {
        voice = begins (entry_at place v) (taken place (opened v)) n h;
        lane = dequeued_lane window base (opened v) lane;
        produced = 0;
        dequeues = 1;
      }))
      → P (played window base v lane)
  unfolding dequeued opened
  frame_dequeues P v lane place s e h =
      let found : (dequeued window base (opened v)).found ≡ true = ap (λ (f : Option ℕ). (dequeued_by window base f (opened v)).found) e in
      let is : (dequeued window base (opened v)).voice
      ≡ prepared_voice window base (entry_at place v) (ready window base place (opened v)) =
      ap (λ (f : Option ℕ). (dequeued_by window base f (opened v)).voice) e in
      subst P (sym (played_silent v lane s))
      (silent_by P (opened v) lane
      (λ t. subst Q (sym is) (prepared_any window base Q (entry_at place v) (taken place (opened v)) h))
      (λ t. absurd (clash (sym found ∙ t))))
    where
      Q : Voice → Type 0
      Q u = P (record { voice = u; lane = dequeued_lane window base (opened v) lane; produced = 0; dequeues = 1 })

  pub frame_off : (P : Frame → Type 0) (v : Voice) (lane : List ℤ) → is_silent v ≡ true
      → searched v.queue v.queued ≡ None
      → P (record { voice = switched_off (opened v); lane = lane; produced = 0; dequeues = 0 })
      → P (played window base v lane)
  unfolding dequeued opened
  frame_off P v lane s e h =
      let none : (dequeued window base (opened v)).found ≡ false = ap (λ (f : Option ℕ). (dequeued_by window base f (opened v)).found) e in
      subst P (sym (played_silent v lane s)) (silent_by P (opened v) lane (λ t. absurd (clash (sym t ∙ none))) (λ t. h))
