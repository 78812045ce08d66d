use Rattle.game.proofs.Lasting.{fewer}
use Rattle.game.proofs.laws.lasting_falls.Goals as goal

pub returns : goal.returns
returns c = fewer
