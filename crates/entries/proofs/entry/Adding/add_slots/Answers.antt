-- `entries::entry::Adding::add_slots` meets its contract. The invariant: behind what was there stand the entries of the slots passed.
-- Assumes nothing.
use Rattle.std.proofs.Common.{◌≡◌, ℕ, ◌+◌, Bool, List, [], ◌∷◌, ◌++◌, sym, ap, ◌∙◌, length, append_assoc, append-nil, add-one, arith}
use Rattle.lists.proofs.Bools.{cond_yes, cond_no}
use Rattle.voice.specs.declared.record.Entry.{Entry}
use Rattle.voice.specs.declared.record.Format.{Format}
use Rattle.entries.specs.Entries.{slot_entries, slots_entries}
use Rattle.entries.specs.Inner.{Listed}
use Rattle.entries.proofs.entry.Adding.add_slots.Goals as goal
use Rattle.entries.proofs.entry.Adding.add_slots.Goals.{then-adds, else-adds}

abbrev items : Listed → List Entry
items l = l.items

abbrev long : Listed → ℕ
long l = length l.items

-- the entries of a slot more
one_more : (bytes : List ℕ) (format : Format) (stereo : Bool) (old now new : List Entry) (k : ℕ)
    → now ≡ old ++ slots_entries bytes format stereo k → new ≡ now ++ slot_entries bytes format stereo k
    → new ≡ old ++ slots_entries bytes format stereo (k + 1)
one_more bytes format stereo old now new k so_far slot =
    slot
    ∙ ap (λ (es : List Entry). es ++ slot_entries bytes format stereo k) so_far
    ∙ append_assoc old (slots_entries bytes format stereo k) (slot_entries bytes format stereo k)
    ∙ ap (λ (n : ℕ). old ++ slots_entries bytes format stereo n) (sym (add-one k))

pub loop-number-preserved : goal.loop-number-preserved
loop-number-preserved c =
    let adding = c.args.self in
    let l = c.loop-number in record {
      room = elim c.if-adds.branch [
        | then-adds w ↦ omega (arith, ap long w.entries-is, w.push.ensures.count)
        | else-adds w ↦ omega (arith, ap long w.entries-is)
      ];
      list =
          one_more adding.bytes.now adding.format adding.stereo c.args.entries.now.items l.entries.items c.if-adds.entries.items l.number
          l.invariant.list
          (elim c.if-adds.branch [
            | then-adds w ↦
                ap items w.entries-is ∙ w.push.ensures.list ∙ ap (λ (e : Entry). l.entries.items ++ (e ∷ [])) w.of_slot.ensures
                ∙ ap (λ (es : List Entry). l.entries.items ++ es) (sym (cond_yes _ _ (sym c.adds.ensures ∙ w.if-adds.true)))
            | else-adds w ↦
                ap items w.entries-is ∙ sym (append-nil l.entries.items)
                ∙ ap (λ (es : List Entry). l.entries.items ++ es) (sym (cond_no _ _ (sym c.adds.ensures ∙ w.if-adds.false)))
          ]);
    }
