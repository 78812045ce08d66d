use Rattle.game.proofs.Runs.{kept_run}
use Rattle.game.proofs.laws.kept_run.Goals as goal

pub returns : goal.returns
returns c = kept_run
