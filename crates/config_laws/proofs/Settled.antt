-- The format, the channels, the count and the queue that the steps before the entries leave: the two resets and the format's steps decide
-- them, and every step between keeps them. Assumes nothing.
use mathlib.Core.Path.{◌≡◌, refl, sym, ◌∙◌, subst}
use mathlib.Core.Bool.{Bool, true, false, ◌||◌, cond}
use mathlib.Core.List.Memᴰ
use mathlib.Core.List.{List, [], ◌∷◌, Memᴰ}
use mathlib.Core.Logic.{⊎_elim}
use Prim.Native.Nat.{ℕ, zero, suc, ◌*◌, ◌^◌}
use lib.ListN.{take}
use Rattle.lists.proofs.Bools.{cond_either}
use Rattle.voice.specs.Blank.{default_voice}
use Rattle.voice.specs.Malformed.{queued_in}
use Rattle.voice.specs.Set.{set_voice_queued, set_voice_ran_out_at_frame_end}
use Rattle.voice.specs.declared.record.Entry.{Entry}
use Rattle.voice.specs.declared.record.Format.{Format}
use Rattle.voice.specs.declared.record.Format.TheVariants.{Pcm16}
use Rattle.voice.specs.declared.record.Voice.{Voice}
use Rattle.settings.specs.Dirty.{flag, FORMAT, MONO_OR_STEREO, ADPCM_COEFFICIENTS, PARTIAL_EMBEDDED_BUFFER, PARTIAL_RESET, ENABLE}
use Rattle.settings.specs.Dirty.{INTERPOLATION, RATE_MULTIPLIER, BUFFER_QUEUE, GAIN, SYNC_COUNT, RESET, EMBEDDED_BUFFER}
use Rattle.settings.specs.Steps.{format_in, stereo_in, reset_step, partial_reset_step, enable_step, sync_step, rate_step}
use Rattle.settings.specs.Steps.{interpolation_step}
use Rattle.settings.specs.Steps.{coefficients_step, gain_step, filters_step, format_step, stereo_step, lengthen_step}
use Rattle.entries.specs.Entries.{slot_count, slot_adds, embedded, slot_entry, slots_entries, added}
use Rattle.config_laws.specs.Laws.{Keeps, kept, format_after, stereo_after, EntriesTake, Taken, EachTakes}
use Rattle.config.specs.Parsed.{settled, to_add}
use Rattle.config_laws.proofs.Kept.{in_turn_lem}

-- what a record has of the four
record Stands (f : Format) (s : Bool) (n : ℕ) (q : List Entry) (u : Voice) : Type 0 where
  format : u.format ≡ f
  stereo : u.stereo ≡ s
  queued : u.queued ≡ n
  queue : queued_in u ≡ q

module _ (bytes : List ℕ) (f : Format) (s : Bool) (n : ℕ) (q : List Entry) where
  abbrev S : Voice → Type 0
  S u = Stands f s n q u

  -- a record that has the four of another
  alike : (u w : Voice) → w.format ≡ u.format → w.stereo ≡ u.stereo → w.queued ≡ u.queued → w.queue ≡ u.queue
      → S u → S w
  alike u w a b c d p = record {
    format = a ∙ p.format;
    stereo = b ∙ p.stereo;
    queued = c ∙ p.queued;
    queue = (λ j. take (c j) (d j)) ∙ p.queue;
  }

  enable_stands : Keeps S (enable_step bytes)
  unfolding enable_step
  enable_stands u p = cond_either S (flag bytes ENABLE) _ u (alike u _ refl refl refl refl p) p

  sync_stands : Keeps S (sync_step bytes)
  unfolding sync_step
  sync_stands u p = cond_either S (flag bytes SYNC_COUNT) _ u (alike u _ refl refl refl refl p) p

  rate_stands : Keeps S (rate_step bytes)
  unfolding rate_step
  rate_stands u p = cond_either S (flag bytes RATE_MULTIPLIER) _ u (alike u _ refl refl refl refl p) p

  interpolation_stands : Keeps S (interpolation_step bytes)
  unfolding interpolation_step
  interpolation_stands u p = cond_either S (flag bytes INTERPOLATION) _ u (alike u _ refl refl refl refl p) p

  coefficients_stands : (cs : List ℕ) → Keeps S (coefficients_step bytes cs)
  unfolding coefficients_step
  coefficients_stands cs u p = cond_either S (flag bytes ADPCM_COEFFICIENTS) _ u (alike u _ refl refl refl refl p) p

  gain_stands : (k : ℕ) → Keeps S (gain_step bytes k)
  unfolding gain_step
  gain_stands k u p = cond_either S (flag bytes (GAIN * 2 ^ k)) _ u (alike u _ refl refl refl refl p) p

  filters_stands : Keeps S (filters_step bytes)
  unfolding filters_step
  filters_stands u p = alike u _ refl refl refl refl p

  lengthen_stands : Keeps S (lengthen_step bytes)
  unfolding lengthen_step
  lengthen_stands u p = cond_either S (flag bytes PARTIAL_EMBEDDED_BUFFER) _ u (alike u _ refl refl refl refl p) p

  abbrev next_format : Format
  next_format = cond (flag bytes FORMAT || flag bytes EMBEDDED_BUFFER) (format_in bytes) f

  format_stands : (u : Voice) → S u → Stands next_format s n q (format_step bytes u)
  unfolding format_step
  format_stands u p = by (flag bytes FORMAT || flag bytes EMBEDDED_BUFFER) _ refl refl refl refl
    where
      by : (b : Bool) (w : Voice) → w.format ≡ format_in bytes → w.stereo ≡ u.stereo → w.queued ≡ u.queued → w.queue ≡ u.queue
          → Stands (cond b (format_in bytes) f) s n q (cond b w u)
      by true w a b c d = record { format = a; stereo = b ∙ p.stereo; queued = c ∙ p.queued; queue = (λ j. take (c j) (d j)) ∙ p.queue }
      by false w a b c d = p

  abbrev next_stereo : Bool
  next_stereo = cond (flag bytes MONO_OR_STEREO || flag bytes EMBEDDED_BUFFER) (stereo_in bytes) s

  stereo_stands : (u : Voice) → S u → Stands f next_stereo n q (stereo_step bytes u)
  unfolding stereo_step
  stereo_stands u p = by (flag bytes MONO_OR_STEREO || flag bytes EMBEDDED_BUFFER) _ refl refl refl refl
    where
      by : (b : Bool) (w : Voice) → w.format ≡ u.format → w.stereo ≡ stereo_in bytes → w.queued ≡ u.queued
          → w.queue ≡ u.queue → Stands f (cond b (stereo_in bytes) s) n q (cond b w u)
      by true w a b c d = record { format = a ∙ p.format; stereo = b; queued = c ∙ p.queued; queue = (λ j. take (c j) (d j)) ∙ p.queue }
      by false w a b c d = p

module _ (bytes : List ℕ) (v : Voice) where
  -- after the two resets
  abbrev first_format : Format
  first_format = cond (flag bytes RESET) Pcm16 v.format

  abbrev first_stereo : Bool
  first_stereo = cond (flag bytes RESET) false v.stereo

  abbrev first_queue : List Entry
  first_queue = take (kept bytes v) v.queue

  resets_stand : Stands first_format first_stereo (kept bytes v) first_queue (partial_reset_step bytes (reset_step bytes v))
  unfolding partial_reset_step reset_step default_voice
  resets_stand = by (flag bytes RESET) (flag bytes PARTIAL_RESET)
    where
      by : (r p : Bool)
          → Stands (cond r Pcm16 v.format) (cond r false v.stereo) (cond (r || p) 0 v.queued)
          (take (cond (r || p) 0 v.queued) v.queue)
          (cond p (set_voice_queued 0 (set_voice_ran_out_at_frame_end false (cond r default_voice v))) (cond r default_voice v))
      by true true = record { format = refl; stereo = refl; queued = refl; queue = refl }
      by true false = record { format = refl; stereo = refl; queued = refl; queue = refl }
      by false true = record { format = refl; stereo = refl; queued = refl; queue = refl }
      by false false = record { format = refl; stereo = refl; queued = refl; queue = refl }

  module _ (cs : List ℕ) where
    between : List (Voice → Voice)
    between =
        enable_step bytes ∷ sync_step bytes ∷ rate_step bytes ∷ interpolation_step bytes ∷ coefficients_step bytes cs ∷ gain_step bytes 0
        ∷ gain_step bytes 1 ∷ gain_step bytes 2 ∷ filters_step bytes ∷ []

    settled_stands : Stands (format_after bytes v) (stereo_after bytes v) (kept bytes v) first_queue (settled bytes cs v)
    unfolding settled between
    settled_stands =
        lengthen_stands bytes _ _ _ _ _ (stereo_stands bytes _ _ _ _ _ (format_stands bytes _ _ _ _ _
        (in_turn_lem (Stands first_format first_stereo (kept bytes v) first_queue) between (
          enable_stands bytes _ _ _ _,
          (
            sync_stands bytes _ _ _ _,
            (
              rate_stands bytes _ _ _ _,
              (
                interpolation_stands bytes _ _ _ _,
                (
                  coefficients_stands bytes _ _ _ _ cs,
                  (
                    gain_stands bytes _ _ _ _ 0,
                    (gain_stands bytes _ _ _ _ 1, (gain_stands bytes _ _ _ _ 2, (filters_stands bytes _ _ _ _, tt))),
                  ),
                ),
              ),
            ),
          ),
        )
        (partial_reset_step bytes (reset_step bytes v)) resets_stand)))

    pub settled_queued : (settled bytes cs v).queued ≡ kept bytes v
    settled_queued = settled_stands.queued

    pub settled_queue : queued_in (settled bytes cs v) ≡ take (kept bytes v) v.queue
    settled_queue = settled_stands.queue

pub entries_take : EntriesTake
unfolding to_add
entries_take bytes cs v = λ j. added bytes ((settled_stands bytes v cs).format j) ((settled_stands bytes v cs).stereo j)

-- ---- each entry

module _ (P : Entry → Type 0) (bytes : List ℕ) (f : Format) (s : Bool)
    (first : P (embedded bytes f s)) (each : (k : ℕ) → P (slot_entry bytes f s k)) where
  one_added : (b : Bool) (x e : Entry) → P x → Memᴰ e (cond b (x ∷ []) []) → P e
  one_added true x e p m = subst P (sym (Memᴰ.eq_of_singleton m)) p
  one_added false x e p m = absurd (Memᴰ.not-nil m)

  slots_added : (k : ℕ) (e : Entry) → Memᴰ e (slots_entries bytes f s k) → P e
  slots_added zero e m = absurd (Memᴰ.not-nil m)
  slots_added (suc k) e m =
      ⊎_elim (slots_added k e) (one_added (slot_adds bytes k) (slot_entry bytes f s k) e (each k))
      (Memᴰ.append_cases (slots_entries bytes f s k) m)

  -- what holds of the embedded entry and of every slot's holds of each entry that is added
  pub all_added : (e : Entry) → Memᴰ e (added bytes f s) → P e
  unfolding added
  all_added e m =
      ⊎_elim (one_added (flag bytes EMBEDDED_BUFFER) (embedded bytes f s) e first) (queue (flag bytes BUFFER_QUEUE))
      (Memᴰ.append_cases (cond (flag bytes EMBEDDED_BUFFER) (embedded bytes f s ∷ []) []) m)
    where
      queue : (b : Bool) → Memᴰ e (cond b (slots_entries bytes f s slot_count) []) → P e
      queue true m = slots_added slot_count e m
      queue false m = absurd (Memᴰ.not-nil m)

pub each_takes : EachTakes
unfolding to_add embedded slot_entry
each_takes bytes cs v e m =
    let u = settled bytes cs v in
    let s = settled_stands bytes v cs in
    all_added (λ x. Taken bytes v x) bytes u.format u.stereo (record { format = s.format; stereo = s.stereo })
    (λ k. record { format = s.format; stereo = s.stereo }) e m
