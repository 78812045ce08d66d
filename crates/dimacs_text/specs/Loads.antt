-- Clauses on their way from entries into a solver.
use Rattle.std.specs.Prelude.{◌≡◌, ℕ, ◌+◌, ◌≤◌, List, ◌++◌, length}
use Rattle.literal.specs.declared.Literal.{Literal}
use Rattle.sat.specs.Clauses.{Clause, Meaning, with_clauses}
use Rattle.dimacs_text.specs.Entries.{terminated}

-- of the entries so many clauses are held, and the rest is left
pub record Loading (entries rest : List Literal) (count : ℕ) (before after : Meaning) : Type 0 where
  pub clauses : List Clause
  pub whole : entries ≡ terminated clauses ++ rest
  pub held : after ≡ with_clauses before (before.clauses ++ clauses)
  pub counted : count ≡ length clauses
  pub fewer : count + length rest ≤ length entries
