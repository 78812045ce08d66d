use Rattle.game.proofs.Examples.{worked_cases}
use Rattle.game.proofs.laws.worked_cases.Goals as goal

pub returns : goal.returns
returns c = worked_cases
