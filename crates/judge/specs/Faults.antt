-- Refusals as a program prints them: the number and the place are the lowest layer's.
use Rattle.std.specs.Prelude.{ℕ, List, ◌++◌, Some, None, codes, decimal, Option}
use Rattle.aiger.specs.Faults as reading
use Rattle.sat.specs.Faults as solving
use Rattle.sat.specs.Texts as solver_texts
use Rattle.synthesis.specs.Faults as running
use Rattle.judge.specs.declared.fault.JudgeFault.{JudgeFault}
use Rattle.judge.specs.declared.fault.JudgeFault.TheVariants.{Read, Solver, Run, Memory}
use Rattle.judge.specs.declared.fault.Refusal.{Refusal}

abbrev pub refusal : ℕ → ℕ → Refusal
refusal n p = record { number = n; place = p }

abbrev pub refusal_in : JudgeFault → Option Refusal
refusal_in (Read f) = Some (refusal (reading.refusal_of f).number (reading.refusal_of f).line)
refusal_in (Solver f) = Some (refusal (solving.fault_number f) 0)
refusal_in (Run f) = Some (refusal (running.refusal_of f).number (running.refusal_of f).place)
refusal_in Memory = None

abbrev pub reason_of : JudgeFault → List ℕ
reason_of (Read f) = reading.read_reason f
reason_of (Solver f) = solver_texts.fault_reason f
reason_of (Run f) = running.run_reason f
reason_of Memory = codes "there is too little memory"

abbrev pub refusal_text : Refusal → List ℕ
refusal_text r = codes "refused " ++ (decimal r.number ++ (codes " at " ++ decimal r.place))
