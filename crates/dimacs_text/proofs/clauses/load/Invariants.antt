use Rattle.std.proofs.Common.{length}
use Rattle.dimacs_text.specs.Loads.{Loading}
use Rattle.dimacs_text.proofs.clauses.load.Given as goal

abbrev pub invariant-loop-first : goal.invariant-loop-first
invariant-loop-first g l =
    Loading l.entries l.rest l.held (g.S.Solver.meaning l.initial.solver) (g.S.Solver.meaning l.solver)

abbrev pub decreases-loop-first : goal.decreases-loop-first
decreases-loop-first g l = length l.rest
