use Rattle.game.proofs.Exactness.{place_fails}
use Rattle.game.proofs.laws.rows_force.Goals as goal

pub returns : goal.returns
returns c = place_fails
