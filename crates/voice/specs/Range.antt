-- What the types of a record say of it, as tests: each number is one that its type holds, and each array is as long as its type says.
-- Definitions over lists and whole numbers would take others too. Beside each test stands what is known where it passes.
-- Assumes nothing: these are definitions.
use Rattle.std.specs.Prelude.{ℕ, ◌-◌, ◌^◌, ◌<◌, Bool, true, ◌&&◌, List, [], ◌∷◌, ◌≡◌, eqb, ltb, ℤ, length}
use Rattle.std.specs.Float.Ieee.{fits}
use Rattle.std.specs.Float.{binary32, binary64}
use Rattle.std.specs.Int.Signed.{mag}
use Rattle.lists.specs.Some.{every}
use Rattle.adpcm.specs.declared.History.{History}
use Rattle.filters.specs.declared.state.BiquadFilter.{BiquadFilter}
use Rattle.filters.specs.declared.state.SimpleFilter.{SimpleFilter}
use Rattle.voice.specs.declared.record.Entry.{Entry}
use Rattle.voice.specs.declared.record.Voice.{Voice}
use Rattle.voice.specs.Blank.{places}

-- all of some tests pass
abbrev all : List Bool → Bool
all tests = every (λ test. test) tests

-- ---- the numbers

-- a number of so many bits, from 0 on
unfoldable pub unsigned : ℕ → ℕ → Bool
unsigned bits n = ltb n (2 ^ bits)

abbrev pub is_byte : ℕ → Bool
is_byte n = unsigned 8 n

-- a number of so many bits, one of them the sign's (`mag` takes both n and -(n + 1) to n): signed 16 is a sample
unfoldable pub signed : ℕ → ℤ → Bool
signed bits z = ltb (mag z) (2 ^ (bits - 1))

unfoldable pub history_in_range : History → Bool
history_in_range h = signed 16 h.yn1 && signed 16 h.yn2

-- the tests of an entry's fields
abbrev pub entry_tests : Entry → List Bool
entry_tests e =
    unsigned 32 e.address
    ∷ unsigned 32 e.length
    ∷ unsigned 16 e.id
    ∷ history_in_range e.adpcm
    ∷ unsigned 32 e.play_position
    ∷ []

unfoldable pub entry_in_range : Entry → Bool
entry_in_range e = all (entry_tests e)

-- a filter's numbers have 32 bits, on or off
unfoldable pub simple_in32 : SimpleFilter → Bool
simple_in32 f = all (signed 32 f.b0 ∷ signed 32 f.a1 ∷ every (signed 32) f.y1 ∷ [])

unfoldable pub biquad_in32 : BiquadFilter → Bool
biquad_in32 f = all (every (signed 32) f.b ∷ every (signed 32) f.a ∷ every (signed 32) f.x ∷ every (signed 32) f.y ∷ [])

-- the tests of a record's fields
abbrev pub range_tests : Voice → List Bool
range_tests v =
    unsigned 16 v.sync_count
    ∷ fits binary64 v.rate
    ∷ simple_in32 v.filters.simple
    ∷ biquad_in32 v.filters.biquad
    ∷ every (fits binary32) v.gain
    ∷ every (fits binary32) v.ramp
    ∷ every (signed 16) v.coefficients
    ∷ history_in_range v.history
    ∷ every entry_in_range v.queue
    ∷ unsigned 64 v.queued
    ∷ entry_in_range v.playing
    ∷ unsigned 32 v.decoded
    ∷ unsigned 32 v.remaining
    ∷ unsigned 32 v.length
    ∷ fits binary64 v.fraction
    ∷ unsigned 16 v.current_buffer_id
    ∷ unsigned 16 v.last_buffer_id
    ∷ unsigned 32 v.position
    ∷ every (signed 16) v.frame
    ∷ []

-- each field of a record holds a value of its type
unfoldable pub in_range : Voice → Bool
in_range v = all (range_tests v)

pub record InRange (v : Voice) : Type 0 where
  pub sync_count : v.sync_count < 2 ^ 16
  pub rate : fits binary64 v.rate ≡ true
  pub simple : simple_in32 v.filters.simple ≡ true
  pub biquad : biquad_in32 v.filters.biquad ≡ true
  pub gain : every (fits binary32) v.gain ≡ true
  pub ramp : every (fits binary32) v.ramp ≡ true
  pub coefficients : every (signed 16) v.coefficients ≡ true
  pub history : history_in_range v.history ≡ true
  pub queue : every entry_in_range v.queue ≡ true
  pub queued : v.queued < 2 ^ 64
  pub playing : entry_in_range v.playing ≡ true
  pub decoded : v.decoded < 2 ^ 32
  pub remaining : v.remaining < 2 ^ 32
  pub length : v.length < 2 ^ 32
  pub fraction : fits binary64 v.fraction ≡ true
  pub current_buffer_id : v.current_buffer_id < 2 ^ 16
  pub last_buffer_id : v.last_buffer_id < 2 ^ 16
  pub position : v.position < 2 ^ 32
  pub frame : every (signed 16) v.frame ≡ true

-- ---- the arrays

abbrev long : {A : Type 0} → ℕ → List A → Bool
long n l = eqb (length l) n

-- each array of a record is as long as its type says
unfoldable pub sized : Voice → Bool
sized v = all (
    long 12 v.gain
    ∷ long 3 v.has_ramp
    ∷ long 12 v.ramp
    ∷ long 16 v.coefficients
    ∷ long places v.queue
    ∷ long 320 v.frame
    ∷ long 2 v.filters.simple.y1
    ∷ long 3 v.filters.biquad.b
    ∷ long 2 v.filters.biquad.a
    ∷ long 4 v.filters.biquad.x
    ∷ long 4 v.filters.biquad.y
    ∷ []
    )

pub record Sized (v : Voice) : Type 0 where
  pub gain : length v.gain ≡ 12
  pub marks : length v.has_ramp ≡ 3
  pub ramp : length v.ramp ≡ 12
  pub coefficients : length v.coefficients ≡ 16
  pub queue : length v.queue ≡ places
  pub frame : length v.frame ≡ 320
  pub y1 : length v.filters.simple.y1 ≡ 2
  pub b : length v.filters.biquad.b ≡ 3
  pub a : length v.filters.biquad.a ≡ 2
  pub x : length v.filters.biquad.x ≡ 4
  pub y : length v.filters.biquad.y ≡ 4
