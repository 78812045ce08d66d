use Rattle.std.proofs.Common.{take, None}
use Rattle.std.specs.List.{flat_map}
use Rattle.encoding.specs.Clauses.{gate_clauses}
use Rattle.encoding.specs.Holding.{Held}
use Rattle.encoding.proofs.gates.hold_gates.Given as goal

-- the gates so far are held
abbrev pub invariant-loop-gate : goal.invariant-loop-gate
invariant-loop-gate g l =
    let s = g.S.Solver in
    Held (s.meaning l.initial.solver)
    (flat_map (gate_clauses l.variables.maximum) (take l.gate-index l.gates))
    (s.meaning l.solver) None
