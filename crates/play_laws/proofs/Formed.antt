-- A frame keeps a record well-formed, its arrays and the lane as long as they are: a dequeue does, a sample leaves only less remaining and
-- a fraction, and what the configuration sets is left alone. Assumes nothing.
use mathlib.Core.Path.{◌≡◌, refl, ap, ◌∙◌}
use mathlib.Core.Bool.{true, false}
use mathlib.Core.List.{List}
use Prim.Native.Nat.{ℕ}
use native.Mathlib.Omega.{arith}
use lib.IntN.{ℤ, pos}
use lib.ListN.{length, length-replicate}
use Rattle.numbers.specs.Sizes.{FRAME_SAMPLES}
use Rattle.steps.specs.Stretch.{after}
use Rattle.voice.specs.Blank.{places}
use Rattle.voice.specs.Malformed.{WellFormed, malformed}
use Rattle.voice.specs.Range.{Sized, sized}
use Rattle.voice.specs.declared.record.Voice.{Voice}
use Rattle.voice.proofs.Formed.{not_malformed_formed, formed_not_malformed}
use Rattle.voice.proofs.Range.{test_sized, sized_test}
use Rattle.dequeue.specs.Dequeue.{dequeued, dequeued_lane}
use Rattle.dequeue.proofs.Keeps.{dequeued_formed, dequeued_places, dequeued_lane_long}
use Rattle.play.specs.Play.{Midst, Frame, opened, started, switched_off, ended, sounded, begun_next, played}
use Rattle.play.proofs.Going.{opened_formed, moved_formed}
use Rattle.play.proofs.Laying.{frame_long}
use Rattle.play_laws.specs.Laws.{Settings, settings_of, KeepsFormed, KeepsSized, KeepsLane}
use Rattle.play_laws.proofs.Parts.{onward_keeps, silent_by, reached, played_by}
use Rattle.play_laws.proofs.Counting.{produced_most}
use Rattle.play_laws.proofs.Left.{dequeued_left, settings_left}

-- ---- well-formed

-- a record and its lane: well-formed for the lane's length, with all places
record Fit (L : ℕ) (v : Voice) (lane : List ℤ) : Type 0 where
  formed : WellFormed L v
  all_places : length v.queue ≡ places
  lane_long : length lane ≡ L

-- a record of which number 7 asks the same
same_formed : (L : ℕ) (v w : Voice) → malformed L w ≡ malformed L v → WellFormed L v → WellFormed L w
same_formed L v w e f = not_malformed_formed L w (e ∙ formed_not_malformed L v f)

module _ (window : List ℕ) (base L : ℕ) where
  dequeued_fit : (v : Voice) (lane : List ℤ) → Fit L v lane → Fit L (dequeued window base v).voice (dequeued_lane window base v lane)
  dequeued_fit v lane f = record {
    formed = dequeued_formed window base L v f.formed f.all_places;
    all_places = dequeued_places window base L v f.formed f.all_places;
    lane_long = dequeued_lane_long window base L v f.formed f.all_places lane f.lane_long ∙ f.lane_long;
  }

  sounded_fit : (m : Midst) → Fit L m.voice m.lane → Fit L (sounded window base m).voice (sounded window base m).lane
  unfolding sounded after
  sounded_fit m f = record {
    formed = moved_formed window base L m.voice 1 f.formed (omega arith);
    all_places = f.all_places;
    lane_long = f.lane_long;
  }

  module _ (v : Voice) (lane : List ℤ) (f : Fit L v lane) where
    opened_fit : Fit L (opened v) lane
    unfolding opened
    opened_fit = record { formed = opened_formed L v f.formed; all_places = f.all_places; lane_long = f.lane_long }

    reached_fit : Fit L (reached window base v lane).voice (reached window base v lane).lane
    unfolding begun_next malformed
    reached_fit =
        onward_keeps window base (λ (m : Midst). Fit L m.voice m.lane) sounded_fit
        (λ m p t. sounded_fit (begun_next window base m) (dequeued_fit m.voice m.lane p)) (started v lane)
        (record {
          formed = same_formed L v (started v lane).voice refl f.formed;
          all_places = f.all_places;
          lane_long = f.lane_long;
        })
        FRAME_SAMPLES

    frame_fit : Fit L (played window base v lane).voice (played window base v lane).lane
    unfolding switched_off ended malformed
    frame_fit =
        played_by window base (λ (x : Frame). Fit L x.voice x.lane) v lane
        (λ s. silent_by window base (λ (x : Frame). Fit L x.voice x.lane) (opened v) lane
        (λ t. dequeued_fit (opened v) lane opened_fit)
        (λ t. record {
          formed = same_formed L (opened v) (switched_off (opened v)) refl opened_fit.formed;
          all_places = opened_fit.all_places;
          lane_long = f.lane_long;
        }))
        (λ s. record {
          formed = same_formed L (reached window base v lane).voice (ended (reached window base v lane)) refl reached_fit.formed;
          all_places = reached_fit.all_places;
          lane_long = reached_fit.lane_long;
        })

fit_of : (v : Voice) (lane : List ℤ) → malformed (length lane) v ≡ false → sized v ≡ true → Fit (length lane) v lane
fit_of v lane e s = record {
  formed = not_malformed_formed (length lane) v e;
  all_places = (test_sized v s).queue;
  lane_long = refl;
}

pub keeps_formed : KeepsFormed
keeps_formed window base v lane e s =
    formed_not_malformed (length lane) (played window base v lane).voice
    (frame_fit window base (length lane) v lane (fit_of v lane e s)).formed

pub keeps_lane : KeepsLane
keeps_lane window base v lane e s = (frame_fit window base (length lane) v lane (fit_of v lane e s)).lane_long

-- ---- the arrays

sized_by : (v w : Voice) → settings_of w ≡ settings_of v → length w.queue ≡ places → length w.frame ≡ 320 → Sized v → Sized w
sized_by v w e q f s = record {
  gain = ap (λ (x : Settings). length x.gain) e ∙ s.gain;
  marks = ap (λ (x : Settings). length x.has_ramp) e ∙ s.marks;
  ramp = ap (λ (x : Settings). length x.ramp) e ∙ s.ramp;
  coefficients = ap (λ (x : Settings). length x.coefficients) e ∙ s.coefficients;
  queue = q;
  frame = f;
  y1 = ap (λ (x : Settings). length x.filters.simple.y1) e ∙ s.y1;
  b = ap (λ (x : Settings). length x.filters.biquad.b) e ∙ s.b;
  a = ap (λ (x : Settings). length x.filters.biquad.a) e ∙ s.a;
  x = ap (λ (x : Settings). length x.filters.biquad.x) e ∙ s.x;
  y = ap (λ (x : Settings). length x.filters.biquad.y) e ∙ s.y;
}

frame_320 : (window : List ℕ) (base : ℕ) (v : Voice) (lane : List ℤ) → length (played window base v lane).voice.frame ≡ 320
unfolding ended switched_off opened
frame_320 window base v lane =
    let zeros = length-replicate 320 (pos 0) in
    played_by window base (λ f. length f.voice.frame ≡ 320) v lane
    (λ s. silent_by window base (λ f. length f.voice.frame ≡ 320) (opened v) lane
    (λ t. ap length (dequeued_left window base (opened v) t).frame ∙ zeros) (λ t. zeros))
    (λ s. frame_long (reached window base v lane).samples (produced_most window base v lane))

pub keeps_sized : KeepsSized
keeps_sized window base v lane e s =
    sized_test (played window base v lane).voice
    (sized_by v (played window base v lane).voice (settings_left window base v lane)
    (frame_fit window base (length lane) v lane (fit_of v lane e s)).all_places (frame_320 window base v lane) (test_sized v s))
