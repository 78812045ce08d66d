use Rattle.encoding.proofs.Candidates.{candidate_sound}
use Rattle.encoding.proofs.laws.candidate_sound.Goals as goal

pub returns : goal.returns
returns c = candidate_sound
