use Rattle.encoding.proofs.Meaning.{marks_say}
use Rattle.encoding.proofs.laws.marks_say.Goals as goal

pub returns : goal.returns
returns c = marks_say
