use Rattle.sat.proofs.Cases.{worked_solver}
use Rattle.sat.proofs.worked.worked_cases.Goals as goal

pub returns : goal.returns
returns c = worked_solver
