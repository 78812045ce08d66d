use Rattle.game.proofs.Exactness.{uncovered_safe}
use Rattle.game.proofs.laws.rest_safe.Goals as goal

pub returns : goal.returns
returns c = uncovered_safe
