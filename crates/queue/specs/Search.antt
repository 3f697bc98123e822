-- The search of a queue: "the first of smallest id". Assumes nothing: these are definitions, and a statement that proofs/Least.antt proves.
use Rattle.std.specs.Prelude.{◌≡◌, cond, List, ◌↔◌, ℕ, zero, suc, ◌≤◌, ◌<◌, eqb, ltb, get_or, Option, None, Some}
use Rattle.voice.specs.Blank.{blank_entry}
use Rattle.voice.specs.declared.record.Entry.{Entry}

-- the id of the entry at a place
abbrev pub id_at : List Entry → ℕ → ℕ
id_at queue place = (get_or queue place blank_entry).id

-- of the first n places that of the first of smallest id: a later one takes over only with a smaller id
unfoldable pub least : List Entry → ℕ → ℕ
least queue zero = 0
least queue (suc n) = cond (ltb (id_at queue n) (id_at queue (least queue n))) n (least queue n)

-- the search among n entries: "An empty queue is turned away first; the rest works on the entry found: the first of smallest id"
unfoldable pub searched : List Entry → ℕ → Option ℕ
searched queue n = cond (eqb n 0) None (Some (least queue n))

-- a place that is queued, no other id is smaller than its own, and every earlier one is larger
pub record FirstOfSmallest (queue : List Entry) (n place : ℕ) : Type 0 where
  pub queued : place < n
  pub smallest : (other : ℕ) → other < n → id_at queue place ≤ id_at queue other
  pub first : (earlier : ℕ) → earlier < place → id_at queue place < id_at queue earlier

-- Of all queues and counts: a place is found exactly if it is that of the first of smallest id, and nothing exactly if nothing is queued.
pub record FindsFirst : Type 0 where
  pub found : (queue : List Entry) (n place : ℕ) → searched queue n ≡ Some place ↔ FirstOfSmallest queue n place
  pub nothing : (queue : List Entry) (n : ℕ) → searched queue n ≡ None ↔ n ≡ 0
