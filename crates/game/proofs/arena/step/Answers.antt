use Rattle.game.proofs.Models.{playable}
use Rattle.game.proofs.arena.step.Goals as goal

pub returns : goal.returns
returns c = record { value = c.step.ensures.value; playable = playable _ _ }
