use Rattle.encoding.proofs.Answering.{answer_sound}
use Rattle.encoding.proofs.laws.answer_sound.Goals as goal

pub returns : goal.returns
returns c = answer_sound
