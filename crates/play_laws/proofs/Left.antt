-- What a frame leaves alone: what a configuration sets, and, where an entry is only dequeued, the frame and the mark of running out. No
-- step stores there. Assumes nothing.
use mathlib.Core.Path.{◌≡◌, refl, ◌∙◌}
use mathlib.Core.Bool.{true}
use mathlib.Core.List.{List}
use Prim.Native.Nat.{ℕ}
use lib.IntN.{ℤ}
use Rattle.numbers.specs.Sizes.{FRAME_SAMPLES}
use Rattle.adpcm.specs.declared.History.{History}
use Rattle.voice.specs.declared.record.Entry.{Entry}
use Rattle.voice.specs.declared.record.Voice.{Voice}
use Rattle.queue.specs.Removal.{removed}
use Rattle.dequeue.specs.Dequeue.{entry_at, taken, begun_at, dequeued}
use Rattle.play.specs.Play.{opened, started, switched_off, ended, sounded, begun_next}
use Rattle.play_laws.specs.Laws.{settings_of, SettingsLeft}
use Rattle.play_laws.proofs.Parts.{begins, prepared_any, taken_either, dequeued_by_lem, onward_keeps, silent_by, reached, played_by}

-- what a dequeue leaves alone
pub record Left (v w : Voice) : Type 0 where
  pub settings : settings_of w ≡ settings_of v
  pub frame : w.frame ≡ v.frame
  pub mark : w.ran_out_at_frame_end ≡ v.ran_out_at_frame_end
  pub enabled : w.enabled ≡ v.enabled

taken_left : (place : ℕ) (v : Voice) → Left v (taken place v)
unfolding removed
taken_left place v =
    taken_either (Left v) place v (λ l. record { settings = refl; frame = refl; mark = refl; enabled = refl })
    (λ l. record { settings = refl; frame = refl; mark = refl; enabled = refl })

-- an entry that begins in place of another
pub begins_left : (e : Entry) (place : ℕ) (v : Voice) (n : ℕ) (h : History) → Left v (begins e (taken place v) n h)
unfolding begun_at
begins_left e place v n h =
    let t = taken_left place v in
    record { settings = t.settings; frame = t.frame; mark = t.mark; enabled = t.enabled }

module _ (window : List ℕ) (base : ℕ) where
  pub dequeued_left : (v : Voice) → (dequeued window base v).found ≡ true → Left v (dequeued window base v).voice
  dequeued_left v =
      dequeued_by_lem window base (Left v) v (λ place e.
      prepared_any window base (Left v) (entry_at place v) (taken place v) (begins_left (entry_at place v) place v))

  reached_settings : (v : Voice) (lane : List ℤ) → settings_of (reached window base v lane).voice ≡ settings_of v
  unfolding sounded begun_next opened
  reached_settings v lane =
      onward_keeps window base (λ m. settings_of m.voice ≡ settings_of v) (λ m e. e) (λ m e f. (dequeued_left m.voice f).settings ∙ e)
      (started v lane) refl FRAME_SAMPLES

pub settings_left : SettingsLeft
unfolding ended switched_off opened
settings_left window base v lane =
    played_by window base (λ f. settings_of f.voice ≡ settings_of v) v lane
    (λ s. silent_by window base (λ f. settings_of f.voice ≡ settings_of v) (opened v) lane
    (λ t. (dequeued_left window base (opened v) t).settings) (λ t. refl))
    (λ s. reached_settings window base v lane)
