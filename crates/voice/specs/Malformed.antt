-- Number 7: when a lent record is malformed, by the lane's length L. Data under a mark that is off and places past the count are not asked.
-- Assumes nothing: these are definitions and a statement.
use Rattle.std.specs.Prelude.{ℕ, ◌<◌, ◌≤◌, Bool, true, false, not, ◌||◌, cond, ◌↔◌, ◌≡◌, ltb, ℤ, nat_abs, get_or, take}
use mathlib.Core.List.{List, [], ◌∷◌, ◌++◌, Memᴰ}
use Rattle.std.specs.Float.Ieee.{lt, is_nan}
use Rattle.std.specs.Float.Ieee.Scale.{finite}
use Rattle.numbers.specs.Literals.{+0}
use Rattle.numbers.specs.Tests.{is_rate, is_fraction}
use Rattle.filters.specs.Range.{filters_in_range}
use Rattle.filters.specs.declared.state.Filters.{Filters}
use Rattle.voice.specs.declared.record.Entry.{Entry}
use Rattle.voice.specs.declared.record.Format.TheVariants.{Adpcm}
use Rattle.voice.specs.declared.record.Voice.{Voice}
use Rattle.voice.specs.Blank.{limit, blank_entry}
use Rattle.voice.specs.Long.{any_too_long}

-- the entries that are queued, in their order
abbrev pub queued_in : Voice → List Entry
queued_in v = take v.queued v.queue

-- "Malformed: queue count over 64, remaining over length, decoded count over L, a queued ADPCM entry longer than L, a rate not above 0 or
-- not finite, a fraction below 0 or not a number, or a filter coefficient or filter state outside -32768 to 32768"
unfoldable pub malformed : ℕ → Voice → Bool
malformed L v =
    ltb limit v.queued
    || (ltb v.length v.remaining
    || (ltb L v.decoded
    || (any_too_long L (queued_in v) || (not (is_rate v.rate) || (not (is_fraction v.fraction) || not (filters_in_range v.filters))))))

-- what is known of a record that is not malformed
pub record WellFormed (L : ℕ) (v : Voice) : Type 0 where
  pub queued : v.queued ≤ limit
  pub remaining : v.remaining ≤ v.length
  pub decoded : v.decoded ≤ L
  pub entries : any_too_long L (queued_in v) ≡ false
  pub rate : is_rate v.rate ≡ true
  pub fraction : is_fraction v.fraction ≡ true
  pub filters : filters_in_range v.filters ≡ true

-- ---- 7 exactly if a sentence of document 01 holds

-- "a queued ADPCM entry longer than L": one of the first so many places holds it
pub record QueuedLonger (L : ℕ) (v : Voice) : Type 0 where
  pub place : ℕ
  pub queued : place < v.queued
  pub adpcm : (get_or v.queue place blank_entry).format ≡ Adpcm
  pub longer : L < (get_or v.queue place blank_entry).length

-- the coefficients and states of the filters that are on
abbrev pub filter_numbers : Filters → List ℤ
filter_numbers f =
    cond f.has_simple (f.simple.b0 ∷ f.simple.a1 ∷ f.simple.y1) []
    ++ cond f.has_biquad (f.biquad.b ++ (f.biquad.a ++ (f.biquad.x ++ f.biquad.y))) []

-- one of them is "outside -32768 to 32768"
pub record Outside (f : Filters) : Type 0 where
  pub number : ℤ
  pub among : Memᴰ number (filter_numbers f)
  pub outside : 32768 < nat_abs number

-- the sentences, one for each constructor
pub data Malformed (L : ℕ) (v : Voice) : Type 0 where
  queue_over_64 : 64 < v.queued → Malformed L v
  remaining_over_length : v.length < v.remaining → Malformed L v
  decoded_over_L : L < v.decoded → Malformed L v
  entry_longer_than_L : QueuedLonger L v → Malformed L v
  rate_not_above_0 : lt +0 v.rate ≡ false → Malformed L v
  rate_not_finite : finite v.rate ≡ false → Malformed L v
  fraction_below_0 : lt v.fraction +0 ≡ true → Malformed L v
  fraction_not_a_number : is_nan v.fraction ≡ true → Malformed L v
  filter_outside : Outside v.filters → Malformed L v

abbrev pub MalformedExactly : Type 0
MalformedExactly = (L : ℕ) (v : Voice) → malformed L v ≡ true ↔ Malformed L v
