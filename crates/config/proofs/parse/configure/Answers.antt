-- `config::parse::configure` meets its contract: nothing is done, the voice is refused and untouched, or it is served whole. Assumes
-- nothing.
use Rattle.std.proofs.Common.{◌≡◌, ℕ, ◌≤◌, false, List, refl, sym, ap, ◌∙◌, subst, eqb, arith}
use Rattle.std.specs.Prelude.{Err}
use Rattle.std.proofs.lemmas.Result.{err_from_is_err_and}
use borrow.Author.Tests.{eq-eqb, ne_eqb}
use Rattle.lists.proofs.Bools.{cond_yes, cond_no}
use Rattle.refusals.specs.declared.Refusal.{Refusal}
use Rattle.refusals.specs.Numbers.{number}
use Rattle.refusals.proofs.Numbers.{ok_exactly}
use Rattle.voice.specs.Blank.{limit}
use Rattle.voice.specs.declared.record.Entry.{Entry}
use Rattle.voice.specs.declared.record.Voice.{Voice}
use Rattle.settings.specs.Dirty.{dirty_in}
use Rattle.entries.specs.Entries.{added}
use Rattle.queueing.specs.Refusal.{refusal_of}
use Rattle.queueing.specs.Queue.{pushed_all}
use Rattle.queueing.proofs.Served.{room_for}
use Rattle.config.specs.Parsed.{Configured, settled, to_add, refusal, parsed, configured, cleared, bytes_after}
use Rattle.config.proofs.Room.{settled_room}
use Rattle.config.proofs.parse.configure.Goals as goal

-- a dirty word that is not 0
dirty : (bytes : List ℕ) (word : ℕ) → word ≡ dirty_in bytes → (word ≡ 0 → ⊥) → eqb (dirty_in bytes) 0 ≡ false
dirty bytes word is more = ne_eqb (dirty_in bytes) 0 (λ e. more (is ∙ e))

-- a refusal has a number
numbered : (r : Refusal) → number r ≡ 0 → ⊥
numbered r e = let ok = (ok_exactly {A = ℕ} (Err r)).0 e in cc

-- the record `w` that the code settles, and the entries that it lists, are those of the definitions
module _ (bytes coefficients : List ℕ) (v w : Voice) (same_record : w ≡ settled bytes coefficients v) where
  room : v.remaining ≤ v.length → v.queued ≤ limit → w.queued ≤ limit
  room fits queue =
      let settled_fits = settled_room bytes limit coefficients v (record { fits = fits; queue = queue }) in
      subst (λ (u : Voice). u.queued ≤ limit) (sym same_record) settled_fits.queue

  module _ (es : List Entry) (list : es ≡ added bytes w.format w.stereo) where
    same_entries : es ≡ to_add bytes coefficients v
    unfolding to_add
    same_entries = list ∙ (λ j. added bytes (same_record j).format (same_record j).stereo)

    record_is : pushed_all es w ≡ parsed bytes coefficients v
    unfolding parsed
    record_is = λ j. pushed_all (same_entries j) (same_record j)

    -- the number `n` that the code finds, where the dirty word is not 0
    module _ (lane n : ℕ) (is : n ≡ refusal_of w.queued es lane) (changed : eqb (dirty_in bytes) 0 ≡ false) where
      found : n ≡ refusal bytes coefficients v lane
      unfolding refusal
      found = is ∙ (λ j. refusal_of (same_record j).queued (same_entries j) lane)

      -- a voice that is refused, and one that is served
      refused : (n ≡ 0 → ⊥) → record { number = n; voice = v } ≡ configured bytes coefficients v lane
      unfolding configured
      refused some =
          let other = ne_eqb (refusal bytes coefficients v lane) 0 (λ e. some (found ∙ e)) in
          sym (cond_no _ _ changed ∙ cond_no _ _ other ∙ (λ j. record { number = sym found j; voice = v }))

      untouched : (n ≡ 0 → ⊥) → bytes ≡ bytes_after bytes coefficients v lane
      unfolding bytes_after
      untouched some =
          let other = ne_eqb (refusal bytes coefficients v lane) 0 (λ e. some (found ∙ e)) in
          sym (cond_no _ _ changed ∙ cond_no _ _ other)

      served : n ≡ 0 → record { number = 0; voice = pushed_all es w } ≡ configured bytes coefficients v lane
      unfolding configured
      served none =
          let zero = eq-eqb (refusal bytes coefficients v lane) 0 (sym found ∙ none) in
          (λ j. record { number = 0; voice = record_is j }) ∙ sym (cond_no _ _ changed ∙ cond_yes _ _ zero)

      emptied : n ≡ 0 → cleared bytes ≡ bytes_after bytes coefficients v lane
      unfolding bytes_after
      emptied none =
          let zero = eq-eqb (refusal bytes coefficients v lane) 0 (sym found ∙ none) in
          sym (cond_no _ _ changed ∙ cond_yes _ _ zero)

pub returns-then-read32-eq0 : goal.returns-then-read32-eq0
unfolding configured bytes_after
returns-then-read32-eq0 c =
    let clean = eq-eqb _ 0 (sym c.read32.ensures ∙ c.if-read32-eq0.true) in record {
      number = ap (λ (d : Configured). d.number) (sym (cond_yes _ _ clean));
      voice = ap (λ (d : Configured). d.voice) (sym (cond_yes _ _ clean));
      bytes = sym (cond_yes _ _ clean);
    }

-- the bound of either record's queue is at hand: which of the two is counted is for the number to say
pub accept_entries-requires : goal.accept_entries-requires
accept_entries-requires c =
    let r = c.requires in
    let fits = room _ c.args.coefficients.now c.args.v _ c.settle-settled.ensures r.fits r.queue in
    omega (arith, fits)

pub returns-in_err-accept_entries : goal.returns-in_err-accept_entries
returns-in_err-accept_entries c =
    let a = c.args in
    let bytes = a.bytes.now in
    let cs = a.coefficients.now in
    let changed = dirty bytes _ c.read32.ensures c.if-read32-eq0.false in
    let list = c.as_slice.ensures.value ∙ c.to_add-entries.ensures.list in
    let r = c.in_err-accept_entries.field-0.0 in
    let is = c.in_err-accept_entries.ensures in
    let p = err_from_is_err_and c.from_residual.result c.from_residual.ensures.1 in
    let done = refused bytes cs a.v _ c.settle-settled.ensures _ list a.lane _ is changed (numbered r) in
    rw (p.1, p.2) record {
      number = ap (λ (d : Configured). d.number) done;
      voice = ap (λ (d : Configured). d.voice) done;
      bytes = untouched bytes cs a.v _ c.settle-settled.ensures _ list a.lane _ is changed (numbered r);
    }

pub push_entries-requires : goal.push_entries-requires
push_entries-requires c =
    let fits = room_for c.settle-settled.result.queued c.as_slice.result.now c.args.lane (sym c.in_ok-accept_entries.ensures) in
    rw (c.as_slice-2.ensures.value, ← c.as_slice.ensures.value) fits

pub returns : goal.returns
returns c =
    let a = c.args in
    let bytes = a.bytes.now in
    let cs = a.coefficients.now in
    let changed = dirty bytes _ c.read32.ensures c.if-read32-eq0.false in
    let list = c.as_slice.ensures.value ∙ c.to_add-entries.ensures.list in
    let is = c.in_ok-accept_entries.ensures in
    let put = c.push_entries.ensures
    ∙ ap (λ (es : List Entry). pushed_all es c.settle-settled.result) (c.as_slice-2.ensures.value ∙ sym c.as_slice.ensures.value) in
    let done = served bytes cs a.v _ c.settle-settled.ensures _ list a.lane _ is changed refl in record {
      number = ap (λ (d : Configured). d.number) done;
      voice = put ∙ ap (λ (d : Configured). d.voice) done;
      bytes = c.clear_served.ensures ∙ emptied bytes cs a.v _ c.settle-settled.ensures _ list a.lane _ is changed refl;
    }
