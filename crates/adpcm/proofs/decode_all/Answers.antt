-- `adpcm::decode_all` meets its contract: a turn takes one frame off the front of what is left to decode. Assumes nothing.
use mathlib.Core.Path.{◌≡◌, ap, ◌∙◌}
use mathlib.Core.List.{List, []}
use Prim.Native.Nat.{ℕ, min, ◌-◌, ◌*◌, ◌<◌}
use native.Mathlib.Omega.{arith}
use lib.ListN.{length, take, drop, get_or, length-take, length-drop}
use Rattle.adpcm.proofs.Frames.{turn_called, chunk_at}
use Rattle.adpcm.proofs.decode_all.Goals as goal

pub loop-i-preserved : goal.loop-i-preserved
loop-i-preserved c =
    let l = c.loop-i in
    let i = l.i in
    let bytes = c.args.«data».now in
    let old = c.args.samples.now in
    let frames = c.as_chunks.result.0.now in
    let there : i * 14 < length old = omega arith in
    let part : c.min-end.result - i * 14 ≡ min 14 (length old - i * 14) = omega arith in
    let long : length (take (c.min-end.result - i * 14) (drop (i * 14) l.samples)) ≡ min 14 (length old - i * 14) =
    simp (length-take, length-drop) (omega (arith, part, l.auto.samples)) in
    turn_called c.args.coefficients.now c.args.history.now bytes (length old) old l.samples l.last i l.invariant there
    (get_or frames i [])
    (ap (λ (fs : List (List ℕ)). get_or fs i []) c.as_chunks.ensures.front ∙ chunk_at 8 _ i bytes [] (omega arith)) _ _ long part
    c.decode_frame.new.samples c.decode_frame.ensures.samples c.decode_frame.new.history c.decode_frame.ensures.history
