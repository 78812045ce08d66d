use Rattle.game.proofs.Play.{forced}
use Rattle.game.proofs.laws.play_forced.Goals as goal

pub returns : goal.returns
returns c = forced
