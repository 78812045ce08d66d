-- The clauses that the two solvers of a run hold.
use Rattle.std.specs.Prelude.{ℕ, ◌+◌, List, [], ◌∷◌, ◌++◌, map}
use Rattle.std.specs.List.{flat_map}
use Rattle.literal.specs.declared.Literal.{Literal}
use Rattle.literal.specs.Truth.{negation_of}
use Rattle.circuit.specs.declared.record.Gate.{Gate}
use Rattle.circuit.specs.declared.record.Record.{Record}
use Rattle.circuit.specs.declared.record.Side.TheVariants.{Event}
use Rattle.circuit.specs.Parts.{gates_of}
use Rattle.sat.specs.Clauses.{Clause}
use Rattle.game.specs.declared.exception.Exception.{Exception}
use Rattle.game.specs.declared.row.Row.{Row}
use Rattle.encoding.specs.Literals.{positive, negative, clause_literal, due_variable, entry_variable, latch_literals, next_literals, side_literals, cared}

-- not all of some literals are true
abbrev pub not_all : List Literal → Clause
not_all ls = map negation_of ls

-- a literal is true only where another is
abbrev pub implies : Literal → Literal → Clause
implies p q = negation_of p ∷ q ∷ []

-- an output is true exactly where both operands are
abbrev pub both_clauses : Literal → Literal → Literal → List Clause
both_clauses o p q = implies o p ∷ implies o q ∷ (o ∷ negation_of p ∷ negation_of q ∷ []) ∷ []

abbrev pub gate_clauses : ℕ → Gate → List Clause
gate_clauses M g = both_clauses (clause_literal M g.output) (clause_literal M g.left) (clause_literal M g.right)

-- the constant is true
abbrev pub constant_clause : ℕ → Clause
constant_clause M = positive (M + 1) ∷ []

-- a step: every gate, and the constant
abbrev pub step_clauses : Record → List Gate → List Clause
step_clauses r gs = flat_map (gate_clauses r.maximum) (gates_of r gs) ++ constant_clause r.maximum ∷ []

-- an answer that is good: the step is not bad, and no row covers the next state
abbrev pub good_clause : Record → Clause
good_clause r = negation_of (clause_literal r.maximum r.output) ∷ []

unfoldable pub answer_base : Record → List Gate → List Clause
answer_base r gs = step_clauses r gs ++ good_clause r ∷ []

unfoldable pub answer_row : Record → Row → Clause
answer_row r row = not_all (cared (next_literals r) row.care row.value)

abbrev pub answer_clauses : Record → List Gate → List Row → List Clause
answer_clauses r gs rows = answer_base r gs ++ map (answer_row r) rows

-- a candidate: no row covers the state, no exception the pair, and something is due, a bad step or a step into a row
abbrev pub bad_clause : Record → Clause
bad_clause r = implies (positive (due_variable r.maximum 0)) (clause_literal r.maximum r.output)

unfoldable pub candidate_base : Record → List Gate → List Clause
candidate_base r gs = step_clauses r gs ++ bad_clause r ∷ []

-- the state is not in the row
abbrev pub outside_clause : Record → Row → Clause
outside_clause r row = not_all (cared (latch_literals r) row.care row.value)

-- the next state is in the row where its variable is true
abbrev pub entry_clauses : Record → Row → ℕ → List Clause
entry_clauses r row i =
    map (implies (positive (entry_variable r.maximum i))) (cared (next_literals r) row.care row.value)

-- what is due by i + 1 rows is due by i, or is a step into the last of them
abbrev pub choice_clause : Record → ℕ → Clause
choice_clause r i =
    negative (due_variable r.maximum (i + 1)) ∷ positive (entry_variable r.maximum i) ∷ positive (due_variable r.maximum i) ∷ []

unfoldable pub candidate_row : Record → Row → ℕ → List Clause
candidate_row r row i = outside_clause r row ∷ entry_clauses r row i ++ choice_clause r i ∷ []

abbrev pub candidate_rows : Record → ℕ → List Row → List Clause
candidate_rows r i [] = []
candidate_rows r i (row ∷ rows) = candidate_row r row i ++ candidate_rows r (i + 1) rows

unfoldable pub exception_clause : Record → Exception → Clause
exception_clause r x =
    not_all (cared (latch_literals r) x.state_care x.state_value ++ cared (side_literals Event r) x.event_care x.event_value)

abbrev pub candidate_clauses : Record → List Gate → List Row → List Exception → List Clause
candidate_clauses r gs rows xs = candidate_base r gs ++ (candidate_rows r 0 rows ++ map (exception_clause r) xs)
