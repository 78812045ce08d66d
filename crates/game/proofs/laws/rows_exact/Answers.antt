use Rattle.game.proofs.Exactness.{exact}
use Rattle.game.proofs.laws.rows_exact.Goals as goal

pub returns : goal.returns
returns c = exact
