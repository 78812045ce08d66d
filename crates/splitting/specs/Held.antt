-- What a solver means.
use Rattle.sat.specs.Clauses.{Meaning}
use Rattle.cells.specs.Held.{held, room}
use Rattle.splitting.specs.declared.solver.Splitting.{Splitting}

abbrev pub meaning_of : Splitting → Meaning
meaning_of s = record { clauses = held s.cells; variables = s.variables; cells = room s.cells }
