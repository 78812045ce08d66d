-- The number of each refusal of a step, and its reason in words.
use Rattle.std.specs.Prelude.{ℕ, List, codes}
use Rattle.circuit.specs.declared.fault.StepFault.{StepFault}
use Rattle.circuit.specs.declared.fault.StepFault.TheVariants.{OutOfRange}

abbrev pub step_number : StepFault → ℕ
step_number OutOfRange = 12

abbrev pub step_reason : StepFault → List ℕ
step_reason f = codes "a state, event or answer number is out of range"
