-- `voices::serve_all` meets its contract: one turn of the loop is one voice served. Assumes nothing.
use Rattle.std.proofs.Common.{◌≡◌, ℕ, ◌<◌, Bool, List, length, get_or, add-one, sym, ap, ◌∙◌, subst, arith}
use Rattle.voice.specs.Blank.{default_voice}
use Rattle.voice.specs.declared.record.Voice.{Voice}
use Rattle.calls.specs.Begin.{is_second, second_of}
use Rattle.calls.specs.Refused.{refused_after, refusals_of}
use Rattle.turns.specs.Turns.{State, serve_one, LongAt}
use Rattle.turns.proofs.Begun.{counted}
use Rattle.voices.specs.Inner.{ticked}
use Rattle.voices.proofs.Steps.{fitting_now, others_stay, upto_next}
use Rattle.voices.proofs.serve_all.Invariants.{state}
use Rattle.voices.proofs.serve_all.Goals as goal

pub loop-i-preserved : goal.loop-i-preserved
loop-i-preserved c =
    let a = c.args in
    let l = c.loop-i in
    let s = c.serve_at in
    let e = s.ensures in
    let second = second_of a.fixed a.region0.now a.region1.now in
    let so_far : ℕ → State = λ k. ticked a.fixed a.window.now second k a.voices.now a.region0.now a.region1.now a.lanes.now in
    let so_many = refusals_of l.turn.refused.items in
    let was = state l.voices l.region0 l.region1 l.lanes l.mixes so_many in
    let noted = e.refused ∙ ap (λ (n : ℕ). refused_after l.i n so_many) e.number in
    let turned : state s.new.voices s.new.region0 s.new.region1 s.new.lanes s.new.mixes (refusals_of s.new.turn.refused.items)
    ≡ serve_one a.fixed a.window.now (is_second l.turn.read) l.i was =
    λ j. state (e.voices j) (e.region0 j) (e.region1 j) (e.lanes j) (e.mixes j) (noted j) in record {
      served =
          turned ∙ ap (λ (b : Bool). serve_one a.fixed a.window.now b l.i was) l.invariant.read
          ∙ ap (serve_one a.fixed a.window.now second l.i) l.invariant.served ∙ ap so_far (sym (add-one l.i));
      read = ap is_second e.read ∙ l.invariant.read;
      few = omega arith;
      waiting =
          λ j k. ap (λ (zs : List Voice). get_or zs j default_voice) e.voices
          ∙ others_stay a.voices.now l.voices l.i _ l.invariant.waiting j k;
      long =
          upto_next (λ (j : ℕ). LongAt a.fixed a.window.now second j (so_far j)) l.i l.invariant.long
          (subst (LongAt a.fixed a.window.now second l.i) l.invariant.served
          (subst (λ (b : Bool). LongAt a.fixed a.window.now b l.i was) l.invariant.read e.long));
    }

pub begin-turn-requires : goal.begin-turn-requires
begin-turn-requires c =
    let a = c.args in
    counted a.fixed _ _ _ _ _ c.requires.fitting

pub serve_at-requires-clause-fitting : goal.serve_at-requires-clause-fitting
serve_at-requires-clause-fitting c =
    let l = c.loop-i in
    fitting_now c.args.fixed _ _ _ _ _ _ _ l.auto.region0 l.auto.region1 l.auto.lanes c.requires.fitting

pub returns : goal.returns
returns c =
    let a = c.args in
    let l = c.loop-i in
    let end : l.i ≡ length a.voices.now = omega (arith, c.requires.lent) in
    let second = second_of a.fixed a.region0.now a.region1.now in
    let so_far : ℕ → State = λ k. ticked a.fixed a.window.now second k a.voices.now a.region0.now a.region1.now a.lanes.now in
    let all : state l.voices l.region0 l.region1 l.lanes l.mixes (refusals_of l.turn.refused.items) ≡ _ =
    l.invariant.served ∙ ap so_far end in record {
      refused = ap (λ (s : State). s.refused) all;
      voices = ap (λ (s : State). s.voices) all;
      region0 = ap (λ (s : State). s.region0) all;
      region1 = ap (λ (s : State). s.region1) all;
      lanes = ap (λ (s : State). s.lanes) all;
      mixes = ap (λ (s : State). s.mixes) all;
      long = λ j h. l.invariant.long j (subst (λ (n : ℕ). j < n) (sym end) h);
    }
