-- What cells hold, and how many there are.
use Rattle.std.specs.Prelude.{ℕ, List, map, length, take}
use Rattle.sat.specs.Clauses.{Clause}
use Rattle.cells.specs.declared.store.Cells.{Cells}
use Rattle.cells.specs.Cells.{clauses, literals}

-- the cells in use
abbrev pub used_cells : Cells → List ℕ
used_cells s = take s.used s.numbers.now

-- the clauses that are held
abbrev pub held : Cells → List Clause
held s = map literals (clauses (used_cells s))

-- all cells, in use or free
abbrev pub room : Cells → ℕ
room s = length s.numbers.now
