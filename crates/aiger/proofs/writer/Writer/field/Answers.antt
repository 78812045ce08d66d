use Rattle.aiger.proofs.Writing.{chained}
use Rattle.aiger.proofs.writer.Writer.field.Goals as goal

pub returns : goal.returns
returns c = chained _ _ _ c.number.ensures c.byte.ensures
