use Rattle.encoding.proofs.Said.{said_in_range}
use Rattle.encoding.proofs.laws.said_in_range.Goals as goal

pub returns : goal.returns
returns c = said_in_range
