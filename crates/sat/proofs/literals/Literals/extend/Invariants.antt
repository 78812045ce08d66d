use Rattle.std.proofs.Common.{◌≡◌, ◌++◌, take}
use Rattle.sat.proofs.literals.Literals.extend.Given as goal

abbrev pub invariant-loop-literal : goal.invariant-loop-literal
invariant-loop-literal g l = l.self ≡ take 64 (l.initial.self ++ l.yielded)
