use Rattle.std.proofs.Common.{[], ◌∷◌, take, None}
use Rattle.std.specs.List.{flat_map}
use Rattle.encoding.specs.Clauses.{implies}
use Rattle.encoding.specs.Holding.{Held}
use Rattle.encoding.proofs.candidate.hold_each.Given as goal

-- the clauses of the literals so far are held
abbrev pub invariant-loop-literal : goal.invariant-loop-literal
invariant-loop-literal g l =
    let s = g.S.Solver in
    Held (s.meaning l.initial.solver)
    (flat_map (λ x. implies l.guard x ∷ []) (take l.literal-index l.literals))
    (s.meaning l.solver) None
