use Rattle.game.proofs.Loops.{harmless_loop}
use Rattle.game.proofs.laws.harmless_loop.Goals as goal

pub returns : goal.returns
returns c = harmless_loop
