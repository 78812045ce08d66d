-- What is asked of the two solvers, and the row and the exception that the marks of a no give.
use Rattle.std.specs.Prelude.{ℕ, ◌+◌, List, [], ◌∷◌, ◌++◌, take, drop, bit_and}
use Rattle.literal.specs.declared.Literal.{Literal}
use Rattle.circuit.specs.declared.record.Record.{Record}
use Rattle.circuit.specs.Parts.{inputs_of}
use Rattle.circuit.specs.Sound.{event_count, answer_count}
use Rattle.game.specs.declared.exception.Exception.{Exception}
use Rattle.game.specs.declared.row.Row.{Row}
use Rattle.encoding.specs.Literals.{due_literal, state_literals, event_literals, answer_literals, care_of}

-- so many marks from a place on
abbrev pub section : ℕ → ℕ → List ℕ → List ℕ
section off n ms = take n (drop off ms)

-- the answer solver is asked for an answer to an event in a state, the event first
abbrev pub row_asked : Record → ℕ → ℕ → List Literal
row_asked r s e = event_literals r e ++ state_literals r s

-- the marked state literals are the row's care
abbrev pub row_from : Record → ℕ → ℕ → List ℕ → Row
row_from r s e marks = record {
  care = care_of (section (event_count (inputs_of r)) r.latch_count marks);
  value = bit_and s (care_of (section (event_count (inputs_of r)) r.latch_count marks));
  event = e;
}

-- the candidate solver is asked whether an answer is not good by so many rows, the answer first
abbrev pub exception_asked : Record → ℕ → ℕ → ℕ → ℕ → List Literal
exception_asked r s e a n = ((answer_literals r a ++ (due_literal r n ∷ [])) ++ state_literals r s) ++ event_literals r e

-- how many of them come first
abbrev pub first_asked : Record → ℕ
first_asked r = answer_count (inputs_of r) + 1

-- the marked state literals and the marked event literals are the exception's cares
abbrev pub exception_from : Record → ℕ → ℕ → List ℕ → Exception
exception_from r s e marks = record {
  state_care = care_of (section (first_asked r) r.latch_count marks);
  state_value = bit_and s (care_of (section (first_asked r) r.latch_count marks));
  event_care = care_of (section (first_asked r + r.latch_count) (event_count (inputs_of r)) marks);
  event_value = bit_and e (care_of (section (first_asked r + r.latch_count) (event_count (inputs_of r)) marks));
}
