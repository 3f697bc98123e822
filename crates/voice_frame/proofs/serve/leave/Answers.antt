-- `voice_frame::serve::leave` meets its contract: the two stores, and the blanks. Assumes nothing.
use Rattle.voice_frame.specs.VoiceFrame.{left}
use Rattle.voice_frame.proofs.serve.leave.Goals as goal

pub returns : goal.returns
unfolding left
returns c = c.tidy.ensures
