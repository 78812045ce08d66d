use Rattle.game.proofs.Bits.{less_by_bits}
use Rattle.game.proofs.laws.less_by_bits.Goals as goal

pub returns : goal.returns
returns c = less_by_bits
