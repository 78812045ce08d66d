-- What the clauses mean: values that satisfy them, and steps of the model. Values speak of a state, an event and an answer.
use Rattle.std.specs.Prelude.{◌≡◌, ℕ, ◌+◌, ◌*◌, ◌^◌, ◌<◌, ◌≤◌, true, false, List, [], ◌∷◌, ◌++◌, length, take, drop, None, Decides, ◌==◌, bit_and, slice_index}
use Rattle.std.specs.List.{AllByRecursion}
use Rattle.literal.specs.declared.Literal.{Literal}
use Rattle.literal.specs.Truth.{Values, truth}
use Rattle.circuit.specs.declared.record.Gate.{Gate}
use Rattle.circuit.specs.declared.record.Record.{Record}
use Rattle.circuit.specs.Parts.{inputs_of}
use Rattle.circuit.specs.Sound.{sound, event_count}
use Rattle.circuit.specs.Step.{bit, state_count, event_numbers, answer_numbers}
use Rattle.sat.specs.Clauses.{Meaning, with_clauses, Clause, all_true, satisfies, marked, cells_of}
use Rattle.sat.specs.Faults.{all_in_range}
use Rattle.game.specs.Models.{arena_of}
use Rattle.game.specs.Rows.{agrees, row_covers, covered, excepted, good}
use Rattle.game.specs.declared.exception.Exception.{Exception}
use Rattle.game.specs.declared.row.Row.{Row}
use Rattle.encoding.specs.Literals.{due_literal, with_signs, number_in, state_literals, event_literals, answer_literals, state_in, event_in, answer_in, care_of}
use Rattle.encoding.specs.Clauses.{answer_base, answer_row, answer_clauses, candidate_base, candidate_row, exception_clause, candidate_clauses}
use Rattle.encoding.specs.Holding.{held_after, held_fault}

-- rows and exceptions of a model's sizes, with no value outside its care
pub record RowFits (r : Record) (row : Row) : Type 0 where
  pub care : row.care < state_count r
  pub value : bit_and row.value row.care ≡ row.value

pub record ExceptionFits (r : Record) (x : Exception) : Type 0 where
  pub state_care : x.state_care < state_count r
  pub state_value : bit_and x.state_value x.state_care ≡ x.state_value
  pub event_care : x.event_care < event_numbers r
  pub event_value : bit_and x.event_value x.event_care ≡ x.event_value

-- the three numbers that values say are one state, one event and one answer of the model
pub record NumbersFit (r : Record) (v : Values) : Type 0 where
  pub state : state_in r v < state_count r
  pub event : event_in r v < event_numbers r
  pub answer : answer_in r v < answer_numbers r

abbrev pub SaidInRange : Type 0
SaidInRange = (r : Record) (gs : List Gate) → sound r gs ≡ true → (v : Values) → NumbersFit r v

-- the literals of a number are true exactly where the values say that number
pub record LiteralsSay (r : Record) (v : Values) : Type 0 where
  pub state : (s : ℕ) → s < state_count r → Decides (all_true v (state_literals r s)) (state_in r v ≡ s)
  pub event : (e : ℕ) → e < event_numbers r → Decides (all_true v (event_literals r e)) (event_in r v ≡ e)
  pub answer : (a : ℕ) → a < answer_numbers r → Decides (all_true v (answer_literals r a)) (answer_in r v ≡ a)

abbrev pub SaidByLiterals : Type 0
SaidByLiterals = (r : Record) (gs : List Gate) → sound r gs ≡ true → (v : Values) → LiteralsSay r v

-- a mask read off marks: its bits, its size, and what the marked ones of a number's literals say
pub record MarksSay : Type 0 where
  pub bits : (ms : List ℕ) (j : ℕ) → bit (care_of ms) j ≡ (slice_index ms j == 1)
  pub below : (ms : List ℕ) → care_of ms < 2 ^ length ms
  pub inside : (n care : ℕ) → bit_and (bit_and n care) care ≡ bit_and n care
  pub agree : (v : Values) (ls : List Literal) (n : ℕ) (ms : List ℕ) → length ms ≤ length ls
      → all_true v (marked (with_signs ls n) ms) ≡ agrees (care_of ms) (bit_and n (care_of ms)) (number_in v ls)
  -- assumptions one after another have their marks one after another
  pub joined : (xs ys : List Literal) (ms : List ℕ)
      → marked (xs ++ ys) ms ≡ marked xs (take (length xs) ms) ++ marked ys (drop (length xs) ms)

-- a row that takes its care from the marks of a state's literals covers exactly the states of values that make the marked ones true
abbrev pub MarkedRow : Type 0
MarkedRow =
    (r : Record) (gs : List Gate) → sound r gs ≡ true → (v : Values) (s event : ℕ) (ms : List ℕ) → length ms ≤ r.latch_count
    → all_true v (marked (state_literals r s) ms) ≡ row_covers (record { care = care_of ms; value = bit_and s (care_of ms); event = event }) (state_in r v)

-- values of the three numbers
abbrev pub Says : Record → Values → ℕ → ℕ → ℕ → Type 0
Says r v s e a =
    (all_true v (state_literals r s) ≡ true) × (all_true v (event_literals r e) ≡ true) × (all_true v (answer_literals r a) ≡ true)

-- the answer clauses are satisfied exactly at good answers
abbrev pub AnswerSound : Type 0
AnswerSound =
    (r : Record) (gs : List Gate) → sound r gs ≡ true → (rows : List Row) → AllByRecursion (RowFits r) rows → (v : Values)
    → satisfies v (answer_clauses r gs rows) ≡ true
    → good (arena_of r gs) rows (state_in r v) (event_in r v) (answer_in r v) ≡ true

abbrev pub AnswerComplete : Type 0
AnswerComplete =
    (r : Record) (gs : List Gate) → sound r gs ≡ true → (rows : List Row) → AllByRecursion (RowFits r) rows
    → (s e a : ℕ) → s < state_count r → e < event_numbers r → a < answer_numbers r → good (arena_of r gs) rows s e a ≡ true
    → (v : Values) × (satisfies v (answer_clauses r gs rows) ≡ true) × Says r v s e a

-- a state that no row covers, at an event with which no exception covers it, and an answer that is not good
pub record Candidate (r : Record) (gs : List Gate) (rows : List Row) (xs : List Exception) (s e a : ℕ) : Type 0 where
  pub uncovered : covered rows s ≡ false
  pub unexcepted : excepted xs s e ≡ false
  pub not_good : good (arena_of r gs) rows s e a ≡ false

-- the candidate clauses, where something is due by all rows, are satisfied exactly at candidates
abbrev pub CandidateSound : Type 0
CandidateSound =
    (r : Record) (gs : List Gate) → sound r gs ≡ true → (rows : List Row) → AllByRecursion (RowFits r) rows
    → (xs : List Exception) → AllByRecursion (ExceptionFits r) xs → (v : Values)
    → satisfies v (candidate_clauses r gs rows xs) ≡ true → truth v (due_literal r (length rows)) ≡ true
    → Candidate r gs rows xs (state_in r v) (event_in r v) (answer_in r v)

abbrev pub CandidateComplete : Type 0
CandidateComplete =
    (r : Record) (gs : List Gate) → sound r gs ≡ true → (rows : List Row) → AllByRecursion (RowFits r) rows
    → (xs : List Exception) → AllByRecursion (ExceptionFits r) xs
    → (s e a : ℕ) → s < state_count r → e < event_numbers r → a < answer_numbers r → Candidate r gs rows xs s e a
    → (v : Values) × (satisfies v (candidate_clauses r gs rows xs) ≡ true) × (truth v (due_literal r (length rows)) ≡ true) × Says r v s e a

-- clauses whose variables are 1 to V, of at most 64 literals each, that take at most so many cells
pub record ClausesFit (V cells : ℕ) (cs : List Clause) : Type 0 where
  pub ranged : all_in_range V cs ≡ true
  pub short : AllByRecursion (λ c. length c ≤ 64) cs
  pub few : cells_of cs ≤ cells

-- such clauses are held whole where so many cells are free
abbrev pub HeldWhole : Type 0
HeldWhole =
    (m : Meaning) (need : ℕ) (cs : List Clause) → ClausesFit m.variables need cs → cells_of m.clauses + need ≤ m.cells
    → (held_fault m cs ≡ None) × (held_after m cs ≡ with_clauses m (m.clauses ++ cs))

-- the sizes of what the two solvers hold
abbrev pub answer_variables : Record → ℕ
answer_variables r = r.maximum + 2

abbrev pub candidate_variables : Record → ℕ → ℕ
candidate_variables r places = r.maximum + 2 * places + 2

abbrev pub answer_base_cells : Record → ℕ
answer_base_cells r = 10 * r.gate_count + 4

abbrev pub answer_row_cells : Record → ℕ
answer_row_cells r = r.latch_count + 1

abbrev pub candidate_base_cells : Record → ℕ
candidate_base_cells r = 10 * r.gate_count + 5

abbrev pub candidate_row_cells : Record → ℕ
candidate_row_cells r = 4 * r.latch_count + 5

abbrev pub exception_cells : Record → ℕ
exception_cells r = r.latch_count + event_count (inputs_of r) + 1

pub record AnswerFits (r : Record) (gs : List Gate) (V : ℕ) : Type 0 where
  pub base : ClausesFit V (answer_base_cells r) (answer_base r gs)
  pub row : (row : Row) → ClausesFit V (answer_row_cells r) (answer_row r row ∷ [])
  pub all : (rows : List Row) → ClausesFit V (answer_base_cells r + answer_row_cells r * length rows) (answer_clauses r gs rows)

pub record CandidateFits (r : Record) (gs : List Gate) (places V : ℕ) : Type 0 where
  pub base : ClausesFit V (candidate_base_cells r) (candidate_base r gs)
  pub row : (row : Row) (i : ℕ) → i < places → ClausesFit V (candidate_row_cells r) (candidate_row r row i)
  pub exception : (x : Exception) → ClausesFit V (exception_cells r) (exception_clause r x ∷ [])
  pub all : (rows : List Row) (xs : List Exception) → length rows ≤ places
      → ClausesFit V (candidate_base_cells r + candidate_row_cells r * length rows + exception_cells r * length xs) (candidate_clauses r gs rows xs)

abbrev pub AnswerSizes : Type 0
AnswerSizes = (r : Record) (gs : List Gate) → sound r gs ≡ true → (V : ℕ) → answer_variables r ≤ V → AnswerFits r gs V

abbrev pub CandidateSizes : Type 0
CandidateSizes =
    (r : Record) (gs : List Gate) → sound r gs ≡ true → (places V : ℕ) → candidate_variables r places ≤ V
    → CandidateFits r gs places V
