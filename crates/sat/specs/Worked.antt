-- Worked cases of clauses: [2, 4] and [3] make variable 1 false and variable 2 true, and with assumption 5 there is nothing.
use Rattle.std.specs.Prelude.{◌≡◌, ℕ, true, false, List, [], ◌∷◌}
use Rattle.literal.specs.declared.Literal.{Literal}
use Rattle.literal.specs.Truth.{Values}
use Rattle.sat.specs.Clauses.{Clause, satisfies, Satisfiable, Unsatisfiable, marked}

abbrev pub literal : ℕ → Literal
literal n = record { code = n }

abbrev pub worked_clauses : List Clause
worked_clauses = (literal 2 ∷ literal 4 ∷ []) ∷ (literal 3 ∷ []) ∷ []

pub record WorkedSolver : Type 0 where
  pub some : Satisfiable worked_clauses []
  pub one : (v : Values) → satisfies v worked_clauses ≡ true → v 1 ≡ false
  pub two : (v : Values) → satisfies v worked_clauses ≡ true → v 2 ≡ true
  pub none : Unsatisfiable worked_clauses (literal 5 ∷ [])
  pub marks : Unsatisfiable worked_clauses (marked (literal 5 ∷ []) (1 ∷ []))
  pub fewer : Satisfiable worked_clauses (marked (literal 5 ∷ []) (0 ∷ []))
