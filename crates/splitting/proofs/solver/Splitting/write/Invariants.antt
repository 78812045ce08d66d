use Rattle.std.proofs.Common.{◌≡◌, ℕ, ◌+◌, ◌<◌, ◌≤◌, cond, eqb, get_or, drop}
use Rattle.splitting.proofs.solver.Splitting.write.Given as goal

abbrev pub invariant-loop-variable : goal.invariant-loop-variable
invariant-loop-variable l = (get_or l.values 0 0 ≡ 0)
    × ((v : ℕ) → 1 ≤ v → v < l.variable → get_or l.values v 0 ≡ cond (eqb (get_or l.self.trail.value.now v 0) 1) 1 0)
    × (drop (l.self.variables + 1) l.values ≡ drop (l.self.variables + 1) l.initial.values)
