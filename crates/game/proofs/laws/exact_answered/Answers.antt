use Rattle.game.proofs.Answers.{exact_answered}
use Rattle.game.proofs.laws.exact_answered.Goals as goal

pub returns : goal.returns
returns c = exact_answered
