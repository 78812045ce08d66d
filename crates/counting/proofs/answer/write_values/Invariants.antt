use Rattle.std.proofs.Common.{◌≡◌, ℕ, ◌<◌, false, ◌&&◌, ltb, cond, get_or}
use Rattle.counting.proofs.answer.write_values.Given as goal

abbrev pub invariant-loop-variable : goal.invariant-loop-variable
invariant-loop-variable l = (k : ℕ) → k < l.variable → get_or l.value-items k 0 ≡ cond (ltb 0 k && get_or l.table k false) 1 0
