-- What judging a file comes to.
use Rattle.std.specs.Prelude.{◌≡◌, ℕ, ◌+◌, ◌-◌, ◌⊎◌, List, Some, None, Ok, Err, vec_items, Option, Result}
use Rattle.circuit.specs.declared.record.Gate.{Gate}
use Rattle.circuit.specs.declared.record.Record.{Record}
use Rattle.aiger.specs.Read.{Answered}
use Rattle.sat.specs.declared.fault.SolverFault.{SolverFault}
use Rattle.splitting.specs.Sizes as splitting
use Rattle.game.specs.Game.{Arena}
use Rattle.game.specs.Models.{arena_of}
use Rattle.game.specs.declared.row.Row.{Row}
use Rattle.synthesis.specs.Runs.{Judged, Stuck, Ended, sizes_of}
use Rattle.synthesis.specs.Sizes.{size_fault, room, variables_of_candidate, variables_of_answer}
use Rattle.synthesis.specs.declared.fault.RunFault.{RunFault}
use Rattle.synthesis.specs.declared.sizes.Sizes.{Sizes}
use Rattle.synthesis.specs.declared.verdict.Verdict.{Verdict}
use Rattle.host.specs.Whole.{AttendedBy}
use Rattle.host.specs.declared.exchange.Exchange.{Exchange}
use Rattle.judge.specs.declared.fault.JudgeFault.{JudgeFault}
use Rattle.judge.specs.declared.fault.JudgeFault.TheVariants.{Read, Solver, Run, Memory}
use Rattle.judge.specs.declared.judging.Judgement.{Judgement}

-- places for rows and for exceptions, and the numbers that each solver is lent
abbrev pub row_places : ℕ
row_places = 64

abbrev pub exception_places : ℕ
exception_places = 256

abbrev pub solver_numbers : ℕ
solver_numbers = 16384

-- the fewest variables that the two solvers need
abbrev pub candidate_variables : Record → ℕ
candidate_variables r = variables_of_candidate r row_places

abbrev pub answer_variables : Record → ℕ
answer_variables r = variables_of_answer r

abbrev pub first_of : {X : Type 0} → Option X → Option X → Option X
first_of None o = o
first_of (Some x) o = Some x

-- what the solvers' checks refuse
abbrev pub solvers_fault : Record → Option SolverFault
solvers_fault r =
    first_of (splitting.size_fault solver_numbers (candidate_variables r)) (splitting.size_fault solver_numbers (answer_variables r))

-- what the run then refuses
abbrev pub cells_for : ℕ → ℕ
cells_for V = solver_numbers - splitting.search_numbers V

abbrev pub sizes_for : Record → Sizes
sizes_for r =
    sizes_of row_places exception_places (room (candidate_variables r) (cells_for (candidate_variables r)))
    (room (answer_variables r) (cells_for (answer_variables r))) (candidate_variables r + 1)

abbrev pub run_fault : Record → Option RunFault
run_fault r = size_fault r (sizes_for r)

-- what a run answers by the fault of its sizes
abbrev pub EndedBy : Option RunFault → Arena → ℕ → ℕ → List Row → Result (Verdict × ℕ) RunFault → Type 0
EndedBy None g R E rows answer = Ended g R E rows answer
EndedBy (Some f) g R E rows answer = answer ≡ Err f

-- a model whose sizes fit has a verdict, rows that show it, and calls that are served; or the run stops at a full roll
pub record Verdicts (r : Record) (gs : List Gate) (before after : List Exchange) (verdict : Verdict) (rows : List Row) : Type 0 where
  pub solvers_fit : solvers_fault r ≡ None
  pub sizes_fit : run_fault r ≡ None
  pub judged : Judged (arena_of r gs) row_places exception_places rows verdict
  pub attended : AttendedBy (arena_of r gs) rows before after verdict

pub record Stops (r : Record) (gs : List Gate) (f : RunFault) : Type 0 where
  pub solvers_fit : solvers_fault r ≡ None
  pub reason : (run_fault r ≡ Some f) ⊎ ((run_fault r ≡ None) × ((rows : List Row) × Stuck (arena_of r gs) row_places exception_places rows f))

-- by what reading the file answers
abbrev pub JudgedAs : Answered → List Exchange → List Exchange → Result Judgement JudgeFault → Type 0
JudgedAs a before after (Ok j) =
    (a.result ≡ Ok tt) × Verdicts a.model a.gates before after j.verdict (vec_items j.rows)
JudgedAs a before after (Err (Read f)) = (a.result ≡ Err f) × (after ≡ before)
JudgedAs a before after (Err (Solver f)) = (a.result ≡ Ok tt) × (solvers_fault a.model ≡ Some f) × (after ≡ before)
JudgedAs a before after (Err (Run f)) = (a.result ≡ Ok tt) × Stops a.model a.gates f × (after ≡ before)
JudgedAs a before after (Err Memory) = after ≡ before
