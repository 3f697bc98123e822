-- What only the contracts of inner functions cite: a voice through the samples of a frame. Assumes nothing: these are definitions.
use Rattle.std.specs.Prelude.{List, ℕ, ℤ}
use Rattle.numbers.specs.Sizes.{FRAME_SAMPLES}
use Rattle.voice.specs.declared.record.Voice.{Voice}
use Rattle.play.specs.Play.{Midst, entering, onward}

-- after as many samples as a frame has
abbrev pub filled : List ℕ → ℕ → Voice → List ℤ → Midst
filled window base v lane = onward window base FRAME_SAMPLES (entering v lane)
