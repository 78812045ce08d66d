use Rattle.std.proofs.Common.{ℕ, ◌<◌, ◌≤◌, get_or}
use Rattle.splitting.specs.Trails.{Seen}
use Rattle.splitting.proofs.blame.see.Given as goal

abbrev pub invariant-loop-literal : goal.invariant-loop-literal
invariant-loop-literal l = ((k : ℕ) → k < l.literal-index → Seen l.seen (get_or l.clause k 0))
    × ((v : ℕ) → 1 ≤ get_or l.initial.seen v 0 → 1 ≤ get_or l.seen v 0)
