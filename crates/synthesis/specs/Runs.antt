-- What a run answers and leaves, and what it has between two turns.
use Rattle.std.specs.Prelude.{◌≡◌, ℕ, ◌+◌, ◌-◌, ◌<◌, ◌≤◌, false, ◌⊎◌, List, [], ◌++◌, length, replicate, Some, None, Ok, Err, Option, Result}
use Rattle.circuit.specs.declared.model.Model.{Model}
use Rattle.circuit.specs.declared.record.Gate.{Gate}
use Rattle.circuit.specs.declared.record.Record.{Record}
use Rattle.sat.specs.Clauses.{Meaning, with_clauses}
use Rattle.roll.specs.declared.roll.Roll.{Roll}
use Rattle.roll.specs.Rolls.{items_of, table_of}
use Rattle.game.specs.Game.{Arena}
use Rattle.game.specs.Models.{model_arena}
use Rattle.game.specs.Rows.{blank_row, blank_exception, covered, GoodRows, GoodExceptions}
use Rattle.game.specs.Runs as runs
use Rattle.game.specs.declared.exception.Exception.{Exception}
use Rattle.game.specs.declared.row.Row.{Row}
use Rattle.encoding.specs.Clauses.{answer_clauses, candidate_clauses}
use Rattle.synthesis.specs.declared.fault.RunFault.{RunFault}
use Rattle.synthesis.specs.declared.fault.RunFault.TheVariants.{TooManyPlaces, CandidateSmall, AnswerSmall, RowsFull, ExceptionsFull, WorkShort, Solver}
use Rattle.synthesis.specs.declared.sizes.Room.{Room}
use Rattle.synthesis.specs.declared.sizes.Sizes.{Sizes}
use Rattle.synthesis.specs.declared.verdict.Verdict.{Verdict}
use Rattle.synthesis.specs.declared.verdict.Verdict.TheVariants.{Kept, Lost}
use Rattle.synthesis.specs.Sizes.{room, variables_of_candidate, cells_of_candidate, variables_of_answer, cells_of_answer, size_fault}

-- what a run is lent: the model, the two rolls, what the two solvers mean, and the work buffer
pub record Lent : Type 0 where
  pub model : Model
  pub rows : Roll Row
  pub exceptions : Roll Exception
  pub candidate : Meaning
  pub answer : Meaning
  pub work : List ℕ

abbrev pub lent : Model → Roll Row → Roll Exception → Meaning → Meaning → List ℕ → Lent
lent m rows xs c a work = record { model = m; rows = rows; exceptions = xs; candidate = c; answer = a; work = work }

abbrev pub record_of : Lent → Record
record_of l = l.model.«record».now

abbrev pub gates_of : Lent → List Gate
gates_of l = l.model.gates.now

abbrev pub arena : Lent → Arena
arena l = model_arena l.model

-- the places of the two rolls
abbrev pub places_of : Lent → ℕ
places_of l = length (table_of l.rows)

abbrev pub exception_places_of : Lent → ℕ
exception_places_of l = length (table_of l.exceptions)

-- what a verdict says. Free are which rows there are and how many, and which exceptions led to them: any that are good
abbrev pub Judged : Arena → ℕ → ℕ → List Row → Verdict → Type 0
Judged g R E rows Kept = runs.Kept g R E rows
Judged g R E rows Lost = runs.GivenUp g R rows

-- what a refusal says once a run has begun: only full rolls, and free is which of the two comes
abbrev pub Stuck : Arena → ℕ → ℕ → List Row → RunFault → Type 0
Stuck g R E rows (RowsFull n) = runs.RowsFull g R rows × (n ≡ length rows)
Stuck g R E rows (ExceptionsFull n) = runs.ExceptionsFull g R E rows × (n ≡ length rows)
Stuck g R E rows TooManyPlaces = ⊥
Stuck g R E rows CandidateSmall = ⊥
Stuck g R E rows AnswerSmall = ⊥
Stuck g R E rows WorkShort = ⊥
Stuck g R E rows (Solver f) = ⊥

abbrev pub Ended : Arena → ℕ → ℕ → List Row → Result (Verdict × ℕ) RunFault → Type 0
Ended g R E rows (Ok p) = Judged g R E rows p.0 × (p.1 ≡ length rows)
Ended g R E rows (Err f) = Stuck g R E rows f

-- places past the rows are blank
abbrev pub Laid : Lent → Type 0
Laid l = table_of l.rows ≡ items_of l.rows ++ replicate (places_of l - length (items_of l.rows)) blank_row

-- the sizes with which no solver refuses, and room for the values of each
pub record Roomy (l : Lent) : Type 0 where
  pub few_rows : places_of l ≤ 1024
  pub candidate_variables : variables_of_candidate (record_of l) (places_of l) ≤ l.candidate.variables
  pub candidate_cells : cells_of_candidate (record_of l) (places_of l) (exception_places_of l) ≤ l.candidate.cells
  pub answer_variables : variables_of_answer (record_of l) ≤ l.answer.variables
  pub answer_cells : cells_of_answer (record_of l) (places_of l) ≤ l.answer.cells
  pub candidate_work : l.candidate.variables < length l.work
  pub answer_work : l.answer.variables < length l.work

-- what stays as it is: the model, the places, the solvers' sizes and the buffer's length
pub record Alike (before after : Lent) : Type 0 where
  pub model : after.model ≡ before.model
  pub places : places_of after ≡ places_of before
  pub exception_places : exception_places_of after ≡ exception_places_of before
  pub candidate : after.candidate ≡ with_clauses before.candidate after.candidate.clauses
  pub answer : after.answer ≡ with_clauses before.answer after.answer.clauses
  pub work : length after.work ≡ length before.work

-- between two turns: good rows that leave reset open, good exceptions, and both solvers hold exactly their clauses
pub record Turning (l : Lent) : Type 0 where
  pub laid : Laid l
  pub good_rows : GoodRows (arena l) (items_of l.rows)
  pub good_exceptions : GoodExceptions (arena l) (items_of l.rows) (items_of l.exceptions)
  pub reset_open : covered (items_of l.rows) 0 ≡ false
  pub candidate : l.candidate.clauses ≡ candidate_clauses (record_of l) (gates_of l) (items_of l.rows) (items_of l.exceptions)
  pub answer : l.answer.clauses ≡ answer_clauses (record_of l) (gates_of l) (items_of l.rows)

-- the turns have ended
abbrev pub Halted : Lent → Result Verdict RunFault → Type 0
Halted l (Ok v) = Laid l × Judged (arena l) (places_of l) (exception_places_of l) (items_of l.rows) v
Halted l (Err f) = Laid l × Stuck (arena l) (places_of l) (exception_places_of l) (items_of l.rows) f

-- a turn adds a row, or an exception to the same rows
abbrev pub Nearer : List Row → List Exception → List Row → List Exception → Type 0
Nearer rows xs rows' xs' = (length rows' ≡ length rows + 1) ⊎ ((rows' ≡ rows) × (length xs' ≡ length xs + 1))

abbrev pub Turned : Lent → Lent → Result (Option Verdict) RunFault → Type 0
Turned before after (Ok None) =
    Turning after × Nearer (items_of before.rows) (items_of before.exceptions) (items_of after.rows) (items_of after.exceptions)
Turned before after (Ok (Some v)) = Halted after (Ok v)
Turned before after (Err f) = Halted after (Err f)

-- nothing is left of what a run uses on its way
pub record Finished (before after : Lent) : Type 0 where
  pub no_exceptions : items_of after.exceptions ≡ []
  pub exception_places : table_of after.exceptions ≡ replicate (exception_places_of before) blank_exception
  pub no_clauses : after.candidate ≡ with_clauses before.candidate []
  pub no_answer_clauses : after.answer ≡ with_clauses before.answer []
  pub zeros : after.work ≡ replicate (length before.work) 0

-- what a run that begins leaves
pub record Ran (before after : Lent) (answer : Result (Verdict × ℕ) RunFault) : Type 0 where
  pub ended : Ended (arena before) (places_of before) (exception_places_of before) (items_of after.rows) answer
  pub places : table_of after.rows ≡ items_of after.rows ++ replicate (places_of before - length (items_of after.rows)) blank_row
  pub finished : Finished before after

-- a run that is refused leaves everything as it was
pub record Unchanged (before after : Lent) : Type 0 where
  pub used_rows : items_of after.rows ≡ items_of before.rows
  pub places : table_of after.rows ≡ table_of before.rows
  pub used_exceptions : items_of after.exceptions ≡ items_of before.exceptions
  pub exception_places : table_of after.exceptions ≡ table_of before.exceptions
  pub clauses : after.candidate ≡ before.candidate
  pub answer_clauses : after.answer ≡ before.answer
  pub buffer : after.work ≡ before.work

abbrev pub sizes_of : ℕ → ℕ → Room → Room → ℕ → Sizes
sizes_of R E c a work = record { rows = R; exceptions = E; candidate = c; answer = a; work = work }

-- the room in a solver
abbrev pub room_of : Meaning → Room
room_of m = room m.variables m.cells

abbrev pub sizes_in : Lent → Sizes
sizes_in l = sizes_of (places_of l) (exception_places_of l) (room_of l.candidate) (room_of l.answer) (length l.work)

abbrev pub GivenBy : Option RunFault → Lent → Lent → Result (Verdict × ℕ) RunFault → Type 0
GivenBy None before after answer = Ran before after answer
GivenBy (Some f) before after answer = (answer ≡ Err f) × Unchanged before after

-- what a run answers and leaves: sizes that do not fit are refused, and otherwise it runs
abbrev pub RunGives : Lent → Lent → Result (Verdict × ℕ) RunFault → Type 0
RunGives before after answer = GivenBy (size_fault (record_of before) (sizes_in before)) before after answer
