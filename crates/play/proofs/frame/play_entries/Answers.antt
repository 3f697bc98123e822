-- `play::frame::play_entries` meets its contract: what is left of the entry at hand, then entries until the frame is full or nothing is
-- queued. Assumes nothing.
use mathlib.Core.Path.{◌≡◌, refl, sym, ap, ◌∙◌, subst}
use mathlib.Core.List.{List}
use mathlib.Core.Bool.{true, false}
use Prim.Native.Nat.{ℕ, ◌+◌, ◌-◌, ◌<◌}
use native.Mathlib.Decide.{ℕ_discrete}
use native.Mathlib.Omega.{arith}
use lib.IntN.{ℤ, pos}
use lib.ListN.{length, replicate}
use borrow.Author.Rules.{rules}
use Rattle.voice.specs.declared.record.Voice.{Voice}
use Rattle.voice.specs.Blank.{places}
use Rattle.voice.specs.Malformed.{WellFormed}
use Rattle.window.specs.declared.Window.{Window}
use Rattle.steps.specs.declared.step.Cursor.{Cursor}
use Rattle.steps.specs.declared.stretch.Reached.{Reached}
use Rattle.dequeue.specs.Dequeue.{dequeued, dequeued_lane}
use Rattle.track.specs.Track.{track_of, cursor_of}
use Rattle.track.specs.Laid.{laid, Turned}
use Rattle.track.specs.declared.Track.{Track}
use Rattle.track.specs.declared.player.Player.{Player}
use Rattle.track.proofs.Onward.{laid_none}
use Rattle.play.specs.Play.{Midst, entering, at, frame_of, begun_next, onward}
use Rattle.play.proofs.Going.{Going, Ready, going_none, going_on, going_stop, ready_first, ready_next, none_lane}
use Rattle.play.proofs.frame.play_entries.Goals as goal

-- ---- what is left of the entry at hand

-- what a player of a record lays into a frame is what the record gives
abbrev Laid : Player → Reached → ℕ → List ℤ → List ℤ → Type 0
Laid p r output before after = after ≡ laid p.window.bytes.now p.window.base p.lane.now p.track p.cursor output r.count before

record Plays (p : Player) (window : Window) (lane : List ℤ) (v : Voice) : Type 0 where
  is_window : p.window ≡ window
  is_lane : p.lane.now ≡ lane
  is_track : p.track ≡ track_of v
  is_cursor : p.cursor ≡ cursor_of v

module _ (window : Window) (v : Voice) (lane zeros : List ℤ) (none_yet : zeros ≡ replicate 320 (pos 0))
    (w : WellFormed (length lane) v) (q : length v.queue ≡ places) (p : Player) (plays : Plays p window lane v)
    (first : Reached) (frame : List ℤ)
    (nothing : p.cursor.remaining ≡ 0 → first ≡ record { cursor = p.cursor; count = 0 })
    (something : 0 < p.cursor.remaining → Turned p.track p.cursor 160 first)
    (is_laid : Laid p first 0 zeros frame)
  where
    abbrev win : List ℕ
    win = window.bytes.now

    abbrev base : ℕ
    base = window.base

    is_frame : frame ≡ laid win base lane (track_of v) (cursor_of v) 0 first.count zeros
    is_frame =
        is_laid
        ∙ (λ i. laid (plays.is_window i).bytes.now (plays.is_window i).base (plays.is_lane i) (plays.is_track i) (plays.is_cursor i) 0
        first.count zeros)

    -- the loop begins in the midst of the frame, by whether something was left
    begins : Going win base (entering v lane) (length lane) lane frame (at first.cursor v) first.count
    begins = elim (ℕ_discrete v.remaining 0) [ yes z ↦ none z | no n ↦ some n ]
      where
        none : v.remaining ≡ 0 → Going win base (entering v lane) (length lane) lane frame (at first.cursor v) first.count
        none z =
            let is : first ≡ record { cursor = cursor_of v; count = 0 } =
            nothing (ap (λ (k : Cursor). k.remaining) plays.is_cursor ∙ z)
            ∙ ap (λ (k : Cursor). record { cursor = k; count = 0 }) plays.is_cursor in
            let same = is_frame
            ∙ ap (λ (r : Reached). laid win base lane (track_of v) (cursor_of v) 0 r.count zeros) is
            ∙ laid_none win base lane (track_of v) (cursor_of v) 0 zeros in
            subst (λ (r : Reached). Going win base (entering v lane) (length lane) lane frame (at r.cursor v) r.count) (sym is)
            (going_none win base (length lane) v lane frame (same ∙ none_yet) w q refl z)

        some : (v.remaining ≡ 0 → ⊥) → Going win base (entering v lane) (length lane) lane frame (at first.cursor v) first.count
        some n =
            let there : 0 < p.cursor.remaining = omega (arith, ap (λ (k : Cursor). k.remaining) plays.is_cursor, n) in
            let all : 0 + first.count ≡ first.count = omega arith in
            let turned = subst (λ (t : Track). Turned t (cursor_of v) 160 first) plays.is_track
            (subst (λ (k : Cursor). Turned p.track k 160 first) plays.is_cursor (something there)) in
            let ready = ready_first win base (length lane) v lane zeros none_yet w q refl n in
            subst (λ (k : ℕ). Going win base (entering v lane) (length lane) lane frame (at first.cursor v) k) all
            (going_on win base (entering v lane) (length lane) zeros 0 (entering v lane) ready frame first (omega arith) turned is_frame)

-- ---- a turn of the loop

module _ (win : List ℕ) (base : ℕ) (start : Midst) (L : ℕ) (lane frame : List ℤ) (w : Voice) (output : ℕ)
    (g : Going win base start L lane frame w output) (room : output < 160) (lane' : List ℤ)
    (is_lane : lane' ≡ dequeued_lane win base w lane)
  where
    -- an entry was queued
    module _ (x : Voice) (is_voice : x ≡ (dequeued win base w).voice) (found : (dequeued win base w).found ≡ true) where
      abbrev m : Midst
      m = begun_next win base (record { voice = w; lane = lane; samples = g.samples; dequeues = g.dequeues })

      ready : Ready win base start L frame output m
      ready = ready_next win base start L lane frame w output g room found

      deq_formed : WellFormed L x
      unfolding begun_next
      deq_formed = subst (WellFormed L) (sym is_voice) ready.formed

      deq_long : length lane' ≡ L
      unfolding begun_next
      deq_long = ap length is_lane ∙ ready.lane_long

      again : (p : Player) (r : Reached) (frame' : List ℤ) → p.window.bytes.now ≡ win → p.window.base ≡ base → p.lane.now ≡ lane'
          → p.track ≡ track_of x → p.cursor ≡ cursor_of x → Turned p.track p.cursor (160 - output) r → Laid p r output frame frame'
          → Going win base start L lane' frame' (at r.cursor x) (output + r.count)
      unfolding begun_next
      again p r frame' is_bytes is_base is_lane' is_track is_cursor turned is_laid =
          let y = (dequeued win base w).voice in
          let track = is_track ∙ ap track_of is_voice in
          let cursor = is_cursor ∙ ap cursor_of is_voice in
          let turned' = subst (λ (t : Track). Turned t (cursor_of y) (160 - output) r) track
          (subst (λ (k : Cursor). Turned p.track k (160 - output) r) cursor turned) in
          let stored = is_laid ∙ (λ i. laid (is_bytes i) (is_base i) ((is_lane' ∙ is_lane) i) (track i) (cursor i) output r.count frame) in
          let turn = going_on win base start L frame output m ready frame' r g.reach turned' stored in
          subst (λ (z : Voice). Going win base start L lane' frame' (at r.cursor z) (output + r.count)) (sym is_voice)
          (subst (λ (k : List ℤ). Going win base start L k frame' (at r.cursor y) (output + r.count)) (sym is_lane) turn)

    -- nothing is queued
    module _ (none : (dequeued win base w).found ≡ false) where
      stays : lane' ≡ lane
      stays = is_lane ∙ none_lane win base w lane none

      stopped : onward win base 160 start ≡ record { voice = w; lane = lane; samples = g.samples; dequeues = g.dequeues }
      stopped = going_stop win base start L lane frame w output g room none

-- a full frame
filled_up : (win : List ℕ) (base : ℕ) (start : Midst) (L : ℕ) (lane frame : List ℤ) (w : Voice) (output : ℕ)
    (g : Going win base start L lane frame w output) → output ≡ 160
    → onward win base 160 start ≡ record { voice = w; lane = lane; samples = g.samples; dequeues = g.dequeues }
filled_up win base start L lane frame w output g full = ap (λ (k : ℕ). onward win base k start) (sym full) ∙ g.gone

pub loop-output-init : goal.loop-output-init
loop-output-init c =
    let a = c.args in
    let told = c.play_left-first.ensures in
    let of = c.of.ensures in
    begins a.window a.v a.lane.now a.frame.now c.requires.silent c.requires.well_formed (search rules) c.of.result
    (record { is_window = of.window; is_lane = of.lane; is_track = of.track; is_cursor = of.cursor }) c.play_left-first.result
    c.play_left-first.new.frame told.none told.some told.frame

pub of-requires-in-loop-output-clause-remains : goal.of-requires-in-loop-output-clause-remains
of-requires-in-loop-output-clause-remains c =
    let l = c.loop-output in
    let d = c.in-Some.ensures in
    (deq_formed c.args.window.bytes.now c.args.window.base _ _ l.lane l.frame l.v l.output l.invariant c.loop-output-test.true _ d.lane
    c.in-Some.x d.«record» (sym d.found)).remaining

pub of-requires-in-loop-output-clause-in_lane : goal.of-requires-in-loop-output-clause-in_lane
of-requires-in-loop-output-clause-in_lane c =
    let l = c.loop-output in
    let d = c.in-Some.ensures in
    let formed = deq_formed c.args.window.bytes.now c.args.window.base _ _ l.lane l.frame l.v l.output l.invariant c.loop-output-test.true _
    d.lane c.in-Some.x d.«record» (sym d.found) in
    let long = deq_long c.args.window.bytes.now c.args.window.base _ _ l.lane l.frame l.v l.output l.invariant c.loop-output-test.true _
    d.lane c.in-Some.x d.«record» (sym d.found) in
    omega (arith, long, formed.decoded)

pub loop-output-preserved : goal.loop-output-preserved
loop-output-preserved c =
    let l = c.loop-output in
    let d = c.in-Some.ensures in
    let of = c.of-in-loop-output.ensures in
    again c.args.window.bytes.now c.args.window.base _ _ l.lane l.frame l.v l.output l.invariant c.loop-output-test.true _ d.lane
    c.in-Some.x d.«record» (sym d.found) c.of-in-loop-output.result c.play_entry-r.result c.play_entry-r.new.frame
    (ap (λ (w : Window). w.bytes.now) of.window) (ap (λ (w : Window). w.base) of.window) of.lane of.track of.cursor
    c.play_entry-r.ensures.turned c.play_entry-r.ensures.frame_after

pub returns-after-loop-output : goal.returns-after-loop-output
returns-after-loop-output c =
    let l = c.loop-output in
    let g = l.invariant in
    let all = filled_up c.args.window.bytes.now c.args.window.base _ _ l.lane l.frame l.v l.output g
    (omega (arith, g.reach, c.loop-output-test.false)) in record {
      «record» = sym (ap (λ (m : Midst). m.voice) all);
      lane = sym (ap (λ (m : Midst). m.lane) all);
      frame = g.stored ∙ sym (ap (λ (m : Midst). frame_of m.samples) all);
      produced = sym g.produced ∙ sym (ap (λ (m : Midst). length m.samples) all);
    }

pub returns-in_default : goal.returns-in_default
returns-in_default c =
    let l = c.loop-output in
    let g = l.invariant in
    let d = c.in_default.ensures in
    let all = stopped c.args.window.bytes.now c.args.window.base _ _ l.lane l.frame l.v l.output g c.loop-output-test.true _ d.lane
    (sym d.found) in
    let still = stays c.args.window.bytes.now c.args.window.base _ _ l.lane l.frame l.v l.output g c.loop-output-test.true _ d.lane
    (sym d.found) in record {
      «record» = sym (ap (λ (m : Midst). m.voice) all);
      lane = still ∙ sym (ap (λ (m : Midst). m.lane) all);
      frame = g.stored ∙ sym (ap (λ (m : Midst). frame_of m.samples) all);
      produced = sym g.produced ∙ sym (ap (λ (m : Midst). length m.samples) all);
    }
