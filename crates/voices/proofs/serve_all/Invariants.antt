-- `voices::serve_all` meets its contract: after i turns the state is what the first i voices leave, the records behind are as they were
-- lent, and each answer so far was as long as what it is put over. Assumes nothing.
use Rattle.std.proofs.Common.{◌≡◌, ℕ, ◌≤◌, ◌<◌, List, ℤ, length, get_or}
use Rattle.voice.specs.Blank.{default_voice}
use Rattle.voice.specs.declared.record.Voice.{Voice}
use Rattle.stems.specs.Call.{Refusal}
use Rattle.calls.specs.Begin.{is_second, second_of}
use Rattle.calls.specs.Refused.{refusals_of}
use Rattle.turns.specs.Turns.{State, LongAt}
use Rattle.voices.specs.Inner.{ticked}
use Rattle.voices.proofs.serve_all.Given as goal

-- what changes while the voices are served, put together
abbrev pub state : List Voice → List ℕ → List ℕ → List ℤ → List ℤ → List Refusal → State
state voices region0 region1 lanes mixes refused = record {
  voices = voices;
  region0 = region0;
  region1 = region1;
  lanes = lanes;
  mixes = mixes;
  refused = refused;
}

abbrev pub invariant-loop-i : goal.invariant-loop-i
invariant-loop-i l =
    let second = second_of l.fixed l.initial.region0 l.initial.region1 in
    let so_far : ℕ → State = λ k.
    ticked l.fixed l.window second k l.initial.voices l.initial.region0 l.initial.region1 l.initial.lanes in
    record {
      served : state l.voices l.region0 l.region1 l.lanes l.mixes (refusals_of l.turn.refused.items) ≡ so_far l.i;
      read : is_second l.turn.read ≡ second;
      few : length l.turn.refused.items ≤ l.i;
      waiting : (j : ℕ) → l.i ≤ j → get_or l.voices j default_voice ≡ get_or l.initial.voices j default_voice;
      long : (j : ℕ) → j < l.i → LongAt l.fixed l.window second j (so_far j);
    }
