-- What a queue and entries that are not refused come to: there is room for them, and none of them is longer than the lane. Assumes nothing.
use mathlib.Core.Path.{◌≡◌}
use mathlib.Core.Bool.{false, cond}
use mathlib.Core.List.{List}
use Prim.Native.Nat.{ℕ, ◌+◌, ◌≤◌}
use lib.Dec.{ltb}
use lib.ListN.{length}
use borrow.Author.Tests.{ltb-false}
use Rattle.lists.proofs.Bools.{passed}
use Rattle.voice.specs.Blank.{limit}
use Rattle.voice.specs.Long.{any_too_long}
use Rattle.voice.specs.declared.record.Entry.{Entry}
use Rattle.queueing.specs.Refusal.{refusal_of}

module _ (queued : ℕ) (entries : List Entry) (L : ℕ) (served : refusal_of queued entries L ≡ 0) where
  chain : (ltb limit (queued + length entries) ≡ false) × ◌≡◌ {A = ℕ} (cond (any_too_long L entries) 21 0) 0
  unfolding refusal_of
  chain = passed (ltb limit (queued + length entries)) 19 (cond (any_too_long L entries) 21 0) served

  pub room_for : queued + length entries ≤ limit
  room_for = ltb-false limit (queued + length entries) chain.0

  pub none_long : any_too_long L entries ≡ false
  none_long = (passed (any_too_long L entries) 20 0 chain.1).0
