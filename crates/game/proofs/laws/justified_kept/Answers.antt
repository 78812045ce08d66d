use Rattle.game.proofs.Covered.{justified_kept}
use Rattle.game.proofs.laws.justified_kept.Goals as goal

pub returns : goal.returns
returns c = justified_kept
