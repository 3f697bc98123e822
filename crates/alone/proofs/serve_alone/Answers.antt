-- `alone::serve_alone` meets its contract: the call begins, and the voice has its turn. Assumes nothing.
use Rattle.std.proofs.Common.{◌≡◌, ℕ, ap, ◌∙◌}
use Rattle.turns.proofs.Begun.{counted}
use Rattle.turns.specs.Turns.{State, beginning, serve_one}
use Rattle.calls.specs.Begin.{is_second}
use Rattle.calls.specs.Refused.{refusals_of, refused_after}
use Rattle.alone.proofs.serve_alone.Goals as goal

pub begin-turn-requires : goal.begin-turn-requires
begin-turn-requires c = counted c.args.fixed _ _ _ _ _ c.requires.fitting

pub returns : goal.returns
returns c =
    let a = c.args in
    let e = c.serve_at.ensures in
    let region = c.begin-turn.ensures.region in
    let mixes = c.begin-turn.ensures.mixes in
    let none = c.begin-turn.ensures.refused in
    -- the turn began with no mix value, and with no voice refused
    let start = beginning a.voices.now a.region0.now a.region1.now a.lanes.now in
    let so_many = refusals_of c.begin-turn.result.refused.items in
    let begun : serve_one a.fixed a.window.now (is_second c.begin-turn.result.read) a.voice.number
    (record start { mixes = c.begin-turn.new.mixes; refused = so_many })
    ≡ _ =
    λ j. serve_one a.fixed a.window.now (region j) a.voice.number (record start { mixes = mixes j; refused = refusals_of (none j) }) in
    record {
      refused = e.refused ∙ ap (λ (n : ℕ). refused_after a.voice.number n so_many) e.number ∙ ap (λ (s : State). s.refused) begun;
      voices = e.voices ∙ ap (λ (s : State). s.voices) begun;
      region0 = e.region0 ∙ ap (λ (s : State). s.region0) begun;
      region1 = e.region1 ∙ ap (λ (s : State). s.region1) begun;
      lanes = e.lanes ∙ ap (λ (s : State). s.lanes) begun;
      mixes = e.mixes ∙ ap (λ (s : State). s.mixes) begun;
    }
