use Rattle.cells.specs.Held.{held}
use Rattle.counting.proofs.Tried.{Tried}
use Rattle.counting.proofs.question.Question.narrow.Given as goal

abbrev pub invariant-loop-i : goal.invariant-loop-i
invariant-loop-i l = Tried (held l.self.solver.now.cells) l.self.assumed.now l.first l.i l.initial.marks l.marks
