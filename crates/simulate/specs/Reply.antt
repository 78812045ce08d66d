-- What a line of a script brings.
use Rattle.std.specs.Prelude.{ℕ, Bool, cond, List, ◌++◌, Some, None, Ok, Err, codes, decimal, Option, Result}
use Rattle.circuit.specs.declared.record.Gate.{Gate}
use Rattle.circuit.specs.declared.record.Record.{Record}
use Rattle.circuit.specs.declared.fault.StepFault.{StepFault}
use Rattle.circuit.specs.Faults.{step_number, step_reason}
use Rattle.circuit.specs.Step.{step_of}
use Rattle.script.specs.declared.Asked.{Asked}
use Rattle.script.specs.Asked.{asked_of}
use Rattle.simulate.specs.declared.reply.Stepped.{Stepped}
use Rattle.simulate.specs.declared.reply.NoStep.{NoStep}
use Rattle.simulate.specs.declared.reply.NoStep.TheVariants.{Refused, Unread}

abbrev pub Reply : Type 0
Reply = Result Stepped NoStep

-- a step's answer as a reply
abbrev pub stepped : ℕ → Asked → Result (Bool × ℕ) StepFault → Reply
stepped s x (Ok p) = Ok (record { state = s; asked = x; bad = p.0; next = p.1 })
stepped s x (Err f) = Err (Refused f)

abbrev pub replied : Record → List Gate → ℕ → ℕ → Option Asked → Reply
replied r gs s at None = Err (Unread at)
replied r gs s at (Some x) = stepped s x (step_of r gs s x.event x.answer)

abbrev pub reply_of : Record → List Gate → ℕ → ℕ → List ℕ → Reply
reply_of r gs s at line = replied r gs s at (asked_of line)

abbrev pub state_after : Reply → ℕ → ℕ
state_after (Ok x) t = x.next
state_after (Err f) t = t

-- a reply in words
abbrev pub shown_of : Reply → List ℕ
shown_of (Ok x) =
    codes "state " ++ (decimal x.state ++ (codes " event " ++ (decimal x.asked.event ++ (codes " answer " ++ (decimal x.asked.answer
    ++ (codes ": " ++ (cond x.bad (codes "bad") (codes "ok") ++ (codes ", next " ++ decimal x.next))))))))
shown_of (Err (Refused f)) = codes "refused " ++ (decimal (step_number f) ++ (codes ": " ++ step_reason f))
shown_of (Err (Unread at)) = codes "line " ++ (decimal at ++ codes ": not two numbers")
