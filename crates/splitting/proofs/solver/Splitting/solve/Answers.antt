use Rattle.std.proofs.Common.{sym}
use Rattle.splitting.proofs.solver.Splitting.solve.Goals as goal

pub returns-clause-met : goal.returns-clause-met
returns-clause-met c = rw (sym c.used.ensures) c.ask.ensures.met
