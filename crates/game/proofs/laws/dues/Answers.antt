use Rattle.game.proofs.Dues.{due_law}
use Rattle.game.proofs.laws.dues.Goals as goal

pub returns : goal.returns
returns c = due_law
