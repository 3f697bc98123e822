-- What the numbers of the two calls mean: each is given exactly if its line of document 01's table holds, and none above it.
-- Assumes nothing: these are statements; `whole_exactly` and `alone_exactly` of proofs/Exactly.antt prove them of every call.
use Rattle.std.specs.Prelude.{ℕ, ◌+◌, ◌*◌, ◌^◌, ◌≤◌, ◌<◌, ◌≢◌, length}
use Rattle.lists.specs.Lowest.{LowestGiven}
use Rattle.numbers.specs.Sizes.{MIXES}
use Rattle.layout.specs.Exactly.{LengthsWrong, EndsPast, ShareByte}
use Rattle.voice.specs.Malformed.{Malformed}
use Rattle.stems.specs.declared.Fixed.{Fixed}
use Rattle.stems.specs.Memory.{VOICES, Lent, lane_length, record_of}
use Rattle.stems.specs.Call.{whole_number, alone_number}

-- "Given exactly if": the sentences of 1 to 7, each with its number
pub data Applies (fx : Fixed) (x : Lent) : ℕ → Type 0 where
  -- "region lengths differ or exceed 65,536"
  region_lengths : LengthsWrong (length x.memory.region0) (length x.memory.region1) → Applies fx x 1
  -- "a place ends past the region"
  place_ends_past : EndsPast (length x.memory.region0) fx.layout → Applies fx x 2
  -- "two places share a byte"
  places_share : ShareByte fx.layout → Applies fx x 3
  -- "window base + length exceeds 2^32"
  window_exceeds : 2 ^ 32 < fx.base + length x.memory.window → Applies fx x 4
  -- "records are not 24, or lanes not 24 times L with L from 0 to 65,536"
  records_not_24 : length x.memory.records ≢ VOICES → Applies fx x 5
  lanes_not_24_times : ((L : ℕ) → L ≤ 65536 → length x.memory.lanes ≢ VOICES * L) → Applies fx x 5
  -- "the mix buffer is not 1,920 signed 32-bit numbers"
  mixes_not_1920 : length x.mixes ≢ MIXES → Applies fx x 6
  -- "a record is malformed"
  record_malformed :
      (i : ℕ) → i < length x.memory.records → Malformed (lane_length (length x.memory.lanes)) (record_of i x.memory.records)
      → Applies fx x 7

-- "The lowest number that applies is returned", and 0 exactly if "no whole-call number applies"
abbrev pub WholeExactly : Type 0
WholeExactly = (fx : Fixed) (x : Lent) → LowestGiven (Applies fx x) (whole_number fx x)

-- "one voice alone also 10"
pub data AloneApplies (fx : Fixed) (v : ℕ) (x : Lent) : ℕ → Type 0 where
  as_for_all : {n : ℕ} → Applies fx x n → AloneApplies fx v x n
  -- "voice number over 23"
  voice_over_23 : 23 < v → AloneApplies fx v x 10

abbrev pub AloneExactly : Type 0
AloneExactly = (fx : Fixed) (v : ℕ) (x : Lent) → LowestGiven (AloneApplies fx v x) (alone_number fx v x)
