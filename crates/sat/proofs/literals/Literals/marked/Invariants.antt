use Rattle.std.proofs.Common.{◌≡◌, take, length}
use Rattle.sat.specs.Clauses.{marked as marked_of}
use Rattle.sat.proofs.literals.Literals.marked.Given as goal

abbrev pub invariant-loop-literal : goal.invariant-loop-literal
invariant-loop-literal l = l.picked ≡ take 64 (marked_of (take (length l.yielded) l.assumed) (take (length l.yielded) l.marks))
