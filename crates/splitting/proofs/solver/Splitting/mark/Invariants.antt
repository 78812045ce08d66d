use Rattle.std.proofs.Common.{◌≡◌, ℕ, ◌/◌, ◌<◌, cond, eqb, length, get_or, drop}
use Rattle.cells.specs.Cells.{codes}
use Rattle.splitting.proofs.solver.Splitting.mark.Given as goal

abbrev pub invariant-loop-k : goal.invariant-loop-k
invariant-loop-k l = ((j : ℕ) → j < l.k → get_or l.marks j 0 ≡ cond (eqb (get_or l.self.seen.now (get_or (codes l.assumed) j 0 / 2) 0) 0) 0 1)
    × (drop (length l.assumed) l.marks ≡ drop (length l.assumed) l.initial.marks)
