use Rattle.encoding.proofs.Said.{said_by_literals}
use Rattle.encoding.proofs.laws.said_by_literals.Goals as goal

pub returns : goal.returns
returns c = said_by_literals
