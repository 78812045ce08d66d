use Rattle.std.proofs.Common.{◌∙◌, arith}
use Rattle.aiger.proofs.Writing.{number_one, number_more}
use Rattle.aiger.proofs.writer.Writer.+number.Goals as goal
use Rattle.aiger.proofs.writer.Writer.+number.Goals.{then-n-ge10, else-n-ge10}

pub returns : goal.returns
returns t c =
    elim c.if-n-ge10.branch [
      | then-n-ge10 w ↦ number_more c.args.n _ (omega arith) w.if-n-ge10.true (w.self-is ∙ w.number.ensures) c.byte.ensures
      | else-n-ge10 w ↦ number_one c.args.n _ w.if-n-ge10.false w.self-is c.byte.ensures
    ]
