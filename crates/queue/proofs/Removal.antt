-- What stands at each place of a queue without one of its places, and that the entries keep their order, by taking the list apart at the
-- place. Assumes nothing.
use Prim.Native.Nat.{ℕ, suc, ◌+◌, ◌-◌, ◌≤◌, ◌<◌}
use mathlib.Core.Path.{◌≡◌, sym, ◌∙◌, ap}
use mathlib.Core.List.{List, [], ◌∷◌, ◌++◌}
use native.Mathlib.Omega.{arith}
use lib.ListN.{length, get_or, set, take, drop, length-append, length-take, length-drop, get_or-append}
use lib.Seq.{length-take-le, get_or-take, get_or-append-add, get_or-drop}
use lib.Seq.{take-append-add, take-append-le, take-take, take-add, drop_at}
use Rattle.std.specs.List.{copy_within}
use Rattle.std.proofs.Common.{add-one, append_assoc}
use Rattle.std.proofs.Math.Seq.{set-append_seam}
use Rattle.std.proofs.lemmas.List.Edits.{paste_all}
use Rattle.voice.specs.Blank.{blank_entry}
use Rattle.voice.specs.declared.record.Entry.{Entry}
use Rattle.queue.specs.Removal.{without, removed, KeepsOrder}

module _ (queue : List Entry) (place : ℕ) (inside : place < length queue) where
  pub without_length : length (without place queue) ≡ length queue
  unfolding without
  without_length = simp (length-append, length-take, length-drop) (omega arith)

  -- before the place nothing changes
  pub without_before : (j : ℕ) (d : Entry) → j < place → get_or (without place queue) j d ≡ get_or queue j d
  unfolding without
  without_before j d lt =
      let len : length (take place queue) ≡ place = length-take-le place queue (omega arith) in
      let here : j < length (take place queue) = omega arith in
      get_or-append (take place queue) (drop (suc place) queue ++ (blank_entry ∷ [])) d j here ∙ get_or-take place queue j d lt

  -- from the place on each is the next
  pub without_next : (j : ℕ) (d : Entry) → place ≤ j → j + 1 < length queue → get_or (without place queue) j d ≡ get_or queue (j + 1) d
  unfolding without
  without_next j d le lt =
      let len : length (take place queue) ≡ place = length-take-le place queue (omega arith) in
      let there : j ≡ length (take place queue) + (j - place) = omega arith in
      let back : suc place + (j - place) ≡ j + 1 = omega arith in
      let here : j - place < length (drop (suc place) queue) = simp length-drop (omega arith) in
      ap (λ (n : ℕ). get_or (take place queue ++ (drop (suc place) queue ++ (blank_entry ∷ []))) n d) there
      ∙ get_or-append-add (take place queue) (drop (suc place) queue ++ (blank_entry ∷ [])) (j - place) d
      ∙ get_or-append (drop (suc place) queue) (blank_entry ∷ []) d (j - place) here
      ∙ get_or-drop (suc place) queue (j - place) d
      ∙ ap (λ (n : ℕ). get_or queue n d) back

-- one place that is stored over
last_stored : (before after : List Entry) (e : Entry) → length after ≡ 1 → set (before ++ after) (length before) e ≡ before ++ (e ∷ [])
last_stored before [] e l = absurd (omega arith)
last_stored before (x ∷ []) e l = set-append_seam before x [] e
last_stored before (x ∷ (y ∷ more)) e l = absurd (omega arith)

-- the entries behind a place put at it, and the last place blank
pub without_kept :
    (queue : List Entry) (place last : ℕ) → last + 1 ≡ length queue → place ≤ last
    → set (copy_within queue (place + 1) (length queue) place) last blank_entry ≡ without place queue
unfolding without
without_kept queue place last all inside =
    let before = take place queue in
    let behind = drop (suc place) queue in
    let left = drop (place + (length queue - suc place)) queue in
    let n : length queue - suc place ≡ length behind = simp length-drop (omega arith) in
    let one : length left ≡ 1 = simp length-drop (omega arith) in
    let end : last ≡ length (before ++ behind) = simp (length-append, length-take, length-drop) (omega arith) in
    let moved : copy_within queue (suc place) (length queue) place ≡ (before ++ behind) ++ left =
    paste_all queue place behind (length queue - suc place) n ∙ sym (append_assoc before behind left) in
    rw add-one
    (ap (λ (l : List Entry). set l last blank_entry) moved
    ∙ ap (λ (k : ℕ). set ((before ++ behind) ++ left) k blank_entry) end
    ∙ last_stored (before ++ behind) left blank_entry one
    ∙ append_assoc before behind (blank_entry ∷ []))

pub keeps_order : KeepsOrder
unfolding removed without
keeps_order v place lt h =
    let q = v.queue in
    let n = v.queued in
    let r = n - suc place in
    let tail = drop (suc place) q ++ (blank_entry ∷ []) in
    let len : length (take place q) ≡ place = length-take-le place q (omega arith) in
    let more : length (take (suc place) q) ≡ suc place = length-take-le (suc place) q (omega arith) in
    let less : n - 1 ≡ length (take place q) + r = omega arith in
    let parts : n ≡ suc place + r = omega arith in
    let room : r ≤ length (drop (suc place) q) = simp length-drop (omega arith) in
    let within : place ≤ n = omega arith in
    let left : take (n - 1) (take place q ++ tail) ≡ take place q ++ take r (drop (suc place) q) =
    ap (λ (m : ℕ). take m (take place q ++ tail)) less
    ∙ take-append-add (take place q) tail r
    ∙ ap (λ (l : List Entry). take place q ++ l) (take-append-le r (drop (suc place) q) (blank_entry ∷ []) room) in
    let all : take n q ≡ take (suc place) q ++ take r (drop (suc place) q) =
    ap (λ (m : ℕ). take m q) parts ∙ take-add (suc place) r q in
    let right : drop (suc place) (take n q) ≡ take r (drop (suc place) q) =
    ap (λ (l : List Entry). drop (suc place) l) all ∙ drop_at (take (suc place) q) (take r (drop (suc place) q)) (suc place) more in
    left
    ∙ ap (λ (l : List Entry). l ++ take r (drop (suc place) q)) (sym (take-take place n q within))
    ∙ ap (λ (l : List Entry). take place (take n q) ++ l) (sym right)
