use Rattle.std.proofs.Common.{◌≡◌, ◌+◌, length, take}
use Rattle.cells.specs.Cells.{flat, clauses}
use Rattle.cells.specs.Held.{used_cells}
use Rattle.cells.proofs.store.Cells.cut.Given as goal

abbrev pub invariant-loop-clause : goal.invariant-loop-clause
invariant-loop-clause l =
    (goal.iterator-loop-clause).can_next l.clause-iterator
    × (goal.iterator-loop-clause).is_finite l.clause-iterator
    × (l.used + length (flat (take l.clause-iterator.n (clauses l.clause-iterator.iter.cells.now))) ≡ length (flat (take l.fn.kept (clauses (used_cells l.fn.self)))))
