use Rattle.game.proofs.Dues.{served}
use Rattle.game.proofs.laws.served_harmless.Goals as goal

pub returns : goal.returns
returns c = served
