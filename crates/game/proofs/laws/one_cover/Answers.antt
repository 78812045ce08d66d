use Rattle.game.proofs.Exactness.{same_covered}
use Rattle.game.proofs.laws.one_cover.Goals as goal

pub returns : goal.returns
returns c = same_covered
