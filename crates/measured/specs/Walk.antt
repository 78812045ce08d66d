-- A walk through a model: so many steps from state 0.
use Rattle.std.specs.Prelude.{ℕ, zero, suc, ◌+◌, ◌/◌, ◌%◌, ◌^◌, Bool, List, Ok, Err, Result}
use Rattle.circuit.specs.declared.record.Gate.{Gate}
use Rattle.circuit.specs.declared.record.Record.{Record}
use Rattle.circuit.specs.declared.fault.StepFault.{StepFault}
use Rattle.circuit.specs.Step.{step_of, event_numbers, answer_numbers}
use Rattle.aiger.specs.declared.fault.ReadFault.{ReadFault}
use Rattle.aiger.specs.Faults.{refusal_of}
use Rattle.aiger.specs.Read.{Answered}

abbrev pub next_or : ℕ → Result (Bool × ℕ) StepFault → ℕ
next_or s (Ok p) = p.1
next_or s (Err f) = s

-- step i, with its event and its answer made of i
unfoldable pub walk_step : Record → List Gate → ℕ → ℕ → ℕ
walk_step r gs i s = next_or s (step_of r gs s (i % event_numbers r) (i / event_numbers r % answer_numbers r))

-- n more steps from a state, the first of which is step i
abbrev pub walked : Record → List Gate → ℕ → ℕ → ℕ → ℕ
walked r gs zero i s = s
walked r gs (suc n) i s = walked r gs n (i + 1) (walk_step r gs i s)

-- the last state, where the file was read
abbrev pub last : Result (Unit {0}) ReadFault → Record → List Gate → ℕ → Result ℕ ReadFault
last (Ok u) r gs n = Ok (walked r gs n 0 0)
last (Err f) r gs n = Err f

abbrev pub last_in : Answered → ℕ → Result ℕ ReadFault
last_in a n = last a.result a.model a.gates n

abbrev pub reached : Result (Unit {0}) ReadFault → Record → List Gate → ℕ → ℕ
reached (Ok u) r gs n = walked r gs n 0 0
reached (Err f) r gs n = 2 ^ 32 + (refusal_of f).number

abbrev pub reached_in : Answered → ℕ → ℕ
reached_in a n = reached a.result a.model a.gates n

abbrev pub refused : Result (Unit {0}) ReadFault → ℕ
refused (Ok u) = 0
refused (Err f) = (refusal_of f).number

abbrev pub refused_in : Answered → ℕ
refused_in a = refused a.result
