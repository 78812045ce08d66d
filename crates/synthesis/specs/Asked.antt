-- What the solvers' answers give to a turn. No refusal comes out: the sizes rule them all out.
use Rattle.std.specs.Prelude.{◌≡◌, ℕ, true, List, [], ◌∷◌, Some, None, Ok, Err, Option, Result}
use Rattle.literal.specs.Truth.{Values}
use Rattle.circuit.specs.declared.record.Record.{Record}
use Rattle.circuit.specs.Parts.{inputs_of}
use Rattle.circuit.specs.Sound.{event_count}
use Rattle.sat.specs.declared.fault.SolverFault.{SolverFault}
use Rattle.sat.specs.Answers.{Narrowed}
use Rattle.sat.specs.Clauses.{Clause, satisfies, all_true, Unsatisfiable}
use Rattle.game.specs.declared.exception.Exception.{Exception}
use Rattle.game.specs.declared.exception.Pair.{Pair}
use Rattle.game.specs.declared.row.Row.{Row}
use Rattle.encoding.specs.Literals.{due_literal, state_in, event_in, answer_in}
use Rattle.synthesis.specs.Narrow.{row_asked, row_from, exception_asked, first_asked, exception_from}

-- values at which something is due say the state and the event. Which values is free
pub record FoundPair (r : Record) (n : ℕ) (cs : List Clause) (p : Pair) : Type 0 where
  pub values : Values
  pub clauses : satisfies values cs ≡ true
  pub due : all_true values (due_literal r n ∷ []) ≡ true
  pub state : p.state ≡ state_in r values
  pub event : p.event ≡ event_in r values

abbrev pub Found : Record → ℕ → List Clause → Result (Option Pair) SolverFault → Type 0
Found r n cs (Ok None) = Unsatisfiable cs (due_literal r n ∷ [])
Found r n cs (Ok (Some p)) = FoundPair r n cs p
Found r n cs (Err f) = ⊥

-- values at which the answer is good, or marks of a narrow no
pub record FoundAnswer (r : Record) (cs : List Clause) (s e a : ℕ) : Type 0 where
  pub values : Values
  pub clauses : satisfies values cs ≡ true
  pub assumptions : all_true values (row_asked r s e) ≡ true
  pub answer : a ≡ answer_in r values

pub record NoAnswer (r : Record) (cs : List Clause) (s e : ℕ) (row : Row) : Type 0 where
  pub before : List ℕ
  pub marks : List ℕ
  pub narrowed : Narrowed cs (row_asked r s e) (event_count (inputs_of r)) before marks
  pub made : row ≡ row_from r s e marks

abbrev pub Replied : Record → List Clause → ℕ → ℕ → Result (Result ℕ Row) SolverFault → Type 0
Replied r cs s e (Ok (Ok a)) = FoundAnswer r cs s e a
Replied r cs s e (Ok (Err row)) = NoAnswer r cs s e row
Replied r cs s e (Err f) = ⊥

-- marks of a narrow no give an exception
pub record NoCandidate (r : Record) (cs : List Clause) (s e a n : ℕ) (x : Exception) : Type 0 where
  pub before : List ℕ
  pub marks : List ℕ
  pub narrowed : Narrowed cs (exception_asked r s e a n) (first_asked r) before marks
  pub made : x ≡ exception_from r s e marks

abbrev pub Excepted : Record → List Clause → ℕ → ℕ → ℕ → ℕ → Result Exception SolverFault → Type 0
Excepted r cs s e a n (Ok x) = NoCandidate r cs s e a n x
Excepted r cs s e a n (Err f) = ⊥
