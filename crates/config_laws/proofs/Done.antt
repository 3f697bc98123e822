-- What a configuration that is served leaves: in the bytes a zero dirty word, with the slot mask by its flag and all else as it was; in the
-- queue the entries that stay with the new ones behind them. Either the dirty word was zero and nothing is changed, or nothing refuses.
-- Assumes nothing.
use mathlib.Core.Path.{◌≡◌, refl, sym, ap, ◌∙◌, subst}
use mathlib.Core.Bool.{Bool, true, false, cond}
use mathlib.Core.List.{List, [], ◌∷◌, ◌++◌, append-nil, append_assoc}
use mathlib.Core.Logic.{◌⊎◌, inl, inr, ⊎_elim}
use Prim.Native.Nat.{ℕ, ◌+◌, ◌*◌, ◌≤◌}
use native.Mathlib.Numerals.{add-one}
use native.Mathlib.Omega.{arith}
use lib.Dec.{eqb}
use lib.ListN.{length, take, get_or, replicate, length-set}
use lib.Seq.{take-suc-set}
use Rattle.std.proofs.lemmas.Bool.{false≢true}
use borrow.Author.Tests.{eqb-true}
use Rattle.lists.specs.Splice.{splice}
use Rattle.lists.proofs.Bools.{cond_yes, cond_no, cond_either}
use Rattle.lists.proofs.Splice.{Apart, part_at, length_splice, other_splice}
use Rattle.fields.specs.Fields.{configuration, total}
use Rattle.little.specs.Little.{at16}
use Rattle.little.proofs.Bytes.{read_write16, read_write32}
use Rattle.voice.specs.Malformed.{queued_in}
use Rattle.voice.specs.declared.record.Entry.{Entry}
use Rattle.voice.specs.declared.record.Voice.{Voice}
use Rattle.voice.proofs.Range.{test_sized}
use Rattle.settings.specs.Dirty.{dirty_in, flag, BUFFER_QUEUE}
use Rattle.queueing.specs.Queue.{pushed, pushed_all}
use Rattle.config.specs.Parsed.{Configured}
use Rattle.config.specs.Parsed.{settled, to_add, refusal, parsed, configured, slots_cleared, cleared, bytes_after}
use Rattle.config_laws.specs.Laws.{mask_at, Cleared, ServedCleared, kept, ServedQueue}
use Rattle.config_laws.proofs.Kept.{entries_fit}
use Rattle.config_laws.proofs.Refused.{no_flag, settled_none, none_to_add}
use Rattle.config_laws.proofs.Settled.{settled_queue}
use Rattle.config_laws.proofs.Sized.{settled_sized}

-- ---- the two ways of being served

module _ (bytes cs : List ℕ) (v : Voice) (L : ℕ) where
  record Clean : Type 0 where
    dirty : dirty_in bytes ≡ 0
    voice : (configured bytes cs v L).voice ≡ v
    after : bytes_after bytes cs v L ≡ bytes

  record Done : Type 0 where
    free : refusal bytes cs v L ≡ 0
    voice : (configured bytes cs v L).voice ≡ parsed bytes cs v
    after : bytes_after bytes cs v L ≡ cleared bytes

  served_ways : (configured bytes cs v L).number ≡ 0 → Clean ⊎ Done
  unfolding configured bytes_after
  served_ways n = by (eqb (dirty_in bytes) 0) (eqb (refusal bytes cs v L) 0) refl refl
    where
      by : (clean served : Bool) → eqb (dirty_in bytes) 0 ≡ clean → eqb (refusal bytes cs v L) 0 ≡ served → Clean ⊎ Done
      by true served p q =
          inl
          (record {
            dirty = eqb-true (dirty_in bytes) 0 p;
            voice = ap (λ (r : Configured). r.voice) (cond_yes _ _ p);
            after = cond_yes _ _ p;
          })
      by false true p q =
          inr
          (record {
            free = eqb-true (refusal bytes cs v L) 0 q;
            voice = ap (λ (r : Configured). r.voice) (cond_no _ _ p ∙ cond_yes _ _ q);
            after = cond_no _ _ p ∙ cond_yes _ _ q;
          })
      by false false p q =
          let is : (configured bytes cs v L).number ≡ refusal bytes cs v L =
          ap (λ (r : Configured). r.number) (cond_no _ _ p ∙ cond_no _ _ q) in
          absurd (false≢true (sym q ∙ ap (λ (k : ℕ). eqb k 0) (sym is ∙ n)))

-- ---- the bytes

-- a byte that a splice does not reach
other_byte : (s new : List ℕ) (i k : ℕ) → Apart i (length new) k 1 → get_or (splice s i new) k 0 ≡ get_or s k 0
other_byte s new i k h =
    let here : k + 0 ≡ k = omega arith in
    ap (λ (j : ℕ). get_or (splice s i new) j 0) (sym here)
    ∙ sym (part_at k 1 (splice s i new) 0 0 (omega arith))
    ∙ ap (λ (l : List ℕ). get_or l 0 0) (other_splice k 1 i new s h)
    ∙ part_at k 1 s 0 0 (omega arith)
    ∙ ap (λ (j : ℕ). get_or s j 0) here

module _ (bytes : List ℕ) (long : length bytes ≡ total configuration) where
  slots_long : length (slots_cleared bytes) ≡ total configuration
  unfolding slots_cleared
  slots_long =
      cond_either (λ (l : List ℕ). length l ≡ total configuration) (flag bytes BUFFER_QUEUE) (splice bytes mask_at (replicate 2 0)) bytes
      (length_splice bytes mask_at (replicate 2 0) ∙ long) long

  word_cleared : dirty_in (cleared bytes) ≡ 0
  unfolding cleared
  word_cleared = read_write32 (slots_cleared bytes) 0 0 (omega (arith, slots_long))

  -- past the dirty word only the mask can differ
  past_word : (k : ℕ) → 4 ≤ k → get_or (cleared bytes) k 0 ≡ get_or (slots_cleared bytes) k 0
  unfolding cleared
  past_word k h = other_byte (slots_cleared bytes) (replicate 4 0) 0 k (inl h)

  slots_other : (k : ℕ) → Apart mask_at 2 k 1 → get_or (slots_cleared bytes) k 0 ≡ get_or bytes k 0
  unfolding slots_cleared
  slots_other k h =
      cond_either (λ (l : List ℕ). get_or l k 0 ≡ get_or bytes k 0) (flag bytes BUFFER_QUEUE) (splice bytes mask_at (replicate 2 0)) bytes
      (other_byte bytes (replicate 2 0) mask_at k h) refl

  slots_mask : at16 (slots_cleared bytes) mask_at ≡ cond (flag bytes BUFFER_QUEUE) 0 (at16 bytes mask_at)
  unfolding slots_cleared
  slots_mask = by (flag bytes BUFFER_QUEUE)
    where
      by : (b : Bool) → at16 (cond b (splice bytes mask_at (replicate 2 0)) bytes) mask_at ≡ cond b 0 (at16 bytes mask_at)
      by true = read_write16 bytes mask_at 0 (omega (arith, long))
      by false = refl

pub served_cleared : ServedCleared
served_cleared bytes cs v L long n = ⊎_elim clean done (served_ways bytes cs v L n)
  where
    clean : Clean bytes cs v L → Cleared bytes (bytes_after bytes cs v L)
    clean k =
        subst (λ (l : List ℕ). Cleared bytes l) (sym k.after)
        (record {
          dirty = k.dirty;
          mask = sym (cond_no 0 (at16 bytes mask_at) (no_flag bytes k.dirty BUFFER_QUEUE));
          before_mask = λ i low high. refl;
          past_mask = λ i low. refl;
        })

    done : Done bytes cs v L → Cleared bytes (bytes_after bytes cs v L)
    done k = subst (λ (l : List ℕ). Cleared bytes l) (sym k.after)
        (record {
          dirty = word_cleared bytes long;
          mask =
              (λ j. past_word bytes long (mask_at + 1) (omega arith) j * 256 + past_word bytes long mask_at (omega arith) j)
              ∙ slots_mask bytes long;
          before_mask = λ i low high. past_word bytes long i low ∙ slots_other bytes long i (inr (omega arith));
          past_mask = λ i low. past_word bytes long i (omega arith) ∙ slots_other bytes long i (inl low);
        })

-- ---- the queue

pushed_in : (es : List Entry) (u : Voice) → u.queued + length es ≤ length u.queue → queued_in (pushed_all es u) ≡ queued_in u ++ es
unfolding pushed_all pushed
pushed_in [] u h = sym (append-nil (queued_in u))
pushed_in (e ∷ es) u h =
    let next : queued_in (pushed e u) ≡ queued_in u ++ (e ∷ []) = rw add-one (take-suc-set u.queue u.queued e (omega arith)) in
    pushed_in es (pushed e u) (simp length-set (omega arith))
    ∙ ap (λ (l : List Entry). l ++ es) next
    ∙ append_assoc (queued_in u) (e ∷ []) es

pub served_queue : ServedQueue
unfolding parsed
served_queue bytes cs v L s n = ⊎_elim clean done (served_ways bytes cs v L n)
  where
    first : List Entry
    first = take (kept bytes v) v.queue

    stays : queued_in (settled bytes cs v) ≡ first
    stays = settled_queue bytes v cs

    clean : Clean bytes cs v L → queued_in (configured bytes cs v L).voice ≡ first ++ to_add bytes cs v
    clean k =
        ap queued_in (k.voice ∙ sym (settled_none bytes k.dirty v cs))
        ∙ stays
        ∙ sym (append-nil first)
        ∙ ap (λ (l : List Entry). first ++ l) (sym (none_to_add bytes k.dirty v cs))

    done : Done bytes cs v L → queued_in (configured bytes cs v L).voice ≡ first ++ to_add bytes cs v
    done k =
        let u = settled bytes cs v in
        let long = (test_sized u (settled_sized bytes cs v s)).queue in
        ap queued_in k.voice
        ∙ pushed_in (to_add bytes cs v) u (omega (arith, entries_fit bytes cs v L k.free, long))
        ∙ ap (λ (l : List Entry). l ++ to_add bytes cs v) stays
