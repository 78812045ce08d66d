use Rattle.game.proofs.Lasting.{fails_lost}
use Rattle.game.proofs.laws.safe_or_lost.Goals as goal

pub returns : goal.returns
returns c = record { apart = λ g s safe lost. lost safe; fails = fails_lost }
