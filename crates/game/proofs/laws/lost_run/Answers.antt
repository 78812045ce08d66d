use Rattle.game.proofs.Runs.{lost_run}
use Rattle.game.proofs.laws.lost_run.Goals as goal

pub returns : goal.returns
returns c = lost_run
