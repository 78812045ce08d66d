-- What an answer and a refusal print.
use Rattle.std.specs.Prelude.{ℕ, List, codes}
use Rattle.sat.specs.declared.answer.Answer.{Answer}
use Rattle.sat.specs.declared.answer.Answer.TheVariants.{Yes, No}
use Rattle.sat.specs.declared.fault.SolverFault.{SolverFault}
use Rattle.sat.specs.declared.fault.SolverFault.TheVariants.{VariableOutOfRange, TooManyLiterals, CellsFull, CountExceeded, BufferShort, SizeUnfit, FirstExceeded}

abbrev pub answer_text : Answer → List ℕ
answer_text Yes = codes "yes"
answer_text No = codes "no"

abbrev pub fault_reason : SolverFault → List ℕ
fault_reason VariableOutOfRange = codes "a literal's variable is 0 or too large"
fault_reason TooManyLiterals = codes "more than 64 literals"
fault_reason CellsFull = codes "too few cells are left free"
fault_reason CountExceeded = codes "fewer clauses are held than are to be kept"
fault_reason SizeUnfit = codes "too few numbers, or too many variables"
fault_reason BufferShort = codes "the buffer for values or for marks is too short"
fault_reason FirstExceeded = codes "fewer assumptions than are always to be marked"
