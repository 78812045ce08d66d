-- The number of each refusal of a run, and the row count that it returns; what verdicts are.
use Rattle.std.specs.Prelude.{ℕ, List, codes}
use Rattle.sat.specs.Faults.{fault_number}
use Rattle.synthesis.specs.declared.fault.RunFault.{RunFault}
use Rattle.synthesis.specs.declared.fault.RunFault.TheVariants.{TooManyPlaces, CandidateSmall, AnswerSmall, RowsFull, ExceptionsFull, WorkShort, Solver}
use Rattle.synthesis.specs.declared.verdict.Verdict.{Verdict}
use Rattle.synthesis.specs.declared.verdict.Verdict.TheVariants.{Kept, Lost}

abbrev pub verdict_number : Verdict → ℕ
verdict_number Lost = 0
verdict_number Kept = 1

abbrev pub verdict_text : Verdict → List ℕ
verdict_text Lost = codes "lost"
verdict_text Kept = codes "kept"

pub record Refusal : Type 0 where
  pub number : ℕ
  pub place : ℕ

abbrev pub refusal : ℕ → ℕ → Refusal
refusal n p = record { number = n; place = p }

abbrev pub refusal_of : RunFault → Refusal
refusal_of TooManyPlaces = refusal 30 0
refusal_of CandidateSmall = refusal 31 0
refusal_of AnswerSmall = refusal 32 0
refusal_of (RowsFull rows) = refusal 33 rows
refusal_of (ExceptionsFull rows) = refusal 34 rows
refusal_of WorkShort = refusal 35 0
refusal_of (Solver f) = refusal (fault_number f) 0

-- the reason in words
abbrev pub run_reason : RunFault → List ℕ
run_reason TooManyPlaces = codes "more than 1,024 places for rows or 4,096 for exceptions"
run_reason CandidateSmall = codes "the candidate solver has too few variables or cells"
run_reason AnswerSmall = codes "the answer solver has too few variables or cells"
run_reason (RowsFull rows) = codes "a row is due and every place is used"
run_reason (ExceptionsFull rows) = codes "an exception is due and every place is used"
run_reason WorkShort = codes "the work buffer is too short"
run_reason (Solver f) = codes "a solver refused"
