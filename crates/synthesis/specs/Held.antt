-- What the candidate solver holds before the exceptions.
use Rattle.std.specs.Prelude.{List, ◌++◌}
use Rattle.circuit.specs.declared.record.Gate.{Gate}
use Rattle.circuit.specs.declared.record.Record.{Record}
use Rattle.sat.specs.Clauses.{Clause}
use Rattle.game.specs.declared.row.Row.{Row}
use Rattle.encoding.specs.Clauses.{candidate_base, candidate_rows}

abbrev pub fixed_clauses : Record → List Gate → List Row → List Clause
fixed_clauses r gs rows = candidate_base r gs ++ candidate_rows r 0 rows
