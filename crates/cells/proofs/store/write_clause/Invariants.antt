use Rattle.std.proofs.Common.{◌≡◌, ℕ, ◌+◌, ◌<◌, ◌∷◌, ◌++◌, length, get_or, take, drop}
use Rattle.cells.specs.Cells.{codes}
use Rattle.cells.proofs.store.write_clause.Given as goal

abbrev pub invariant-loop-i : goal.invariant-loop-i
invariant-loop-i l =
    (l.cells ≡ (length l.clause ∷ take l.i (codes l.clause)) ++ drop (1 + l.i) l.fn.cells)
    × ((k : ℕ) → k < l.i → get_or (codes l.clause) k 0 < 65536)
