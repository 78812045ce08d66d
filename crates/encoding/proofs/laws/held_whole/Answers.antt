use Rattle.encoding.proofs.Holding.{held_whole}
use Rattle.encoding.proofs.laws.held_whole.Goals as goal

pub returns : goal.returns
returns c = held_whole
