use Rattle.std.proofs.Common.{◌≡◌, ◌+◌, drop}
use Rattle.sat.proofs.Narrowing.{NarrowedBelow}
use Rattle.narrowing.proofs.drops.drop_each.Given as goal

abbrev pub invariant-loop-i : goal.invariant-loop-i
invariant-loop-i g l =
    let m = g.S.Solver.meaning l.initial.below in
    NarrowedBelow m.clauses l.assumed l.first l.i l.initial.marks l.marks
    × (drop (m.variables + 1) l.values ≡ drop (m.variables + 1) l.initial.values)
    × (g.S.Solver.meaning l.below ≡ m)
