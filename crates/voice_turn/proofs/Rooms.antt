-- Where none of 1 to 6 applies, each voice's own has room in what is lent, since each place and the lanes hold 24 of a kind one after the
-- other. Assumes nothing.
use Prim.Native.Nat.{ℕ, ◌+◌, ◌*◌, ◌≤◌, ◌<◌}
use native.Mathlib.Nat.{suc-mul, mul-le-mul_right}
use native.Mathlib.Omega.{arith}
use lib.Dec.{lit<}
use Rattle.layout.specs.Exactly.{Sound}
use Rattle.stems.specs.declared.Fixed.{Fixed}
use Rattle.stems.specs.Memory.{lane_length}
use Rattle.stems.proofs.Shape.{Fits, fits}
use Rattle.calls.specs.Begin.{Fitting, lengths_of}
use Rattle.voice_turn.specs.Turn.{Room}

-- one more than i of something, where i is below 24
one_more : (i n : ℕ) → i < 24 → i * n + n ≤ 24 * n
one_more i n h = omega (arith, suc-mul i n, mul-le-mul_right n h)

module _ (fx : Fixed) (region0 region1 window lanes mixes : ℕ) (fit : Fitting fx region0 region1 window lanes mixes) where
  fitted : Fits fx (lengths_of 24 region0 region1 window lanes)
  fitted = (fits fx (lengths_of 24 region0 region1 window lanes) mixes fit).0

  sound : Sound region0 region1 fx.layout
  sound = fitted.layout

  -- in two regions that are each at least as long as region 0
  room : (i read other : ℕ) → i < 24 → region0 ≤ read → region0 ≤ other → Room fx.layout i read other lanes mixes
  room i read other h p q = record {
    coefficients = omega (arith, sound.within 2 (lit< tt));
    configuration = omega (arith, sound.within 0 (lit< tt));
    status = omega (arith, sound.within 1 (lit< tt));
    lane = omega (arith, one_more i (lane_length lanes) h, fitted.lanes);
    short = fitted.short;
    all = (fits fx (lengths_of 24 region0 region1 window lanes) mixes fit).1;
  }

  -- with region 0 read, and with region 1
  pub room0 : (i : ℕ) → i < 24 → Room fx.layout i region0 region1 lanes mixes
  room0 i h = room i region0 region1 h (omega arith) (omega (arith, sound.same))

  pub room1 : (i : ℕ) → i < 24 → Room fx.layout i region1 region0 lanes mixes
  room1 i h = room i region1 region0 h (omega (arith, sound.same)) (omega arith)
