use Rattle.game.proofs.Bits.{agrees_by_bits}
use Rattle.game.proofs.laws.agrees_by_bits.Goals as goal

pub returns : goal.returns
returns c = agrees_by_bits
