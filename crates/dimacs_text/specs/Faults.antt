-- Why a DIMACS text is refused: the number of each refusal, and its reason in words. A solver's refusal keeps both.
use Rattle.std.specs.Prelude.{ℕ, List, codes}
use Rattle.sat.specs.Faults.{fault_number as solver_number}
use Rattle.sat.specs.Texts.{fault_reason as solver_reason}
use Rattle.dimacs_text.specs.declared.fault.DimacsFault.{DimacsFault}
use Rattle.dimacs_text.specs.declared.fault.DimacsFault.TheVariants.{HeaderMissing, HeaderMalformed, EntryMalformed, ClauseUnfinished, CountWrong, MemoryShort, Refused}

abbrev pub fault_number : DimacsFault → ℕ
fault_number HeaderMissing = 50
fault_number HeaderMalformed = 51
fault_number EntryMalformed = 52
fault_number ClauseUnfinished = 53
fault_number CountWrong = 54
fault_number MemoryShort = 55
fault_number (Refused e) = solver_number e

abbrev pub fault_reason : DimacsFault → List ℕ
fault_reason HeaderMissing = codes "there is no line `p cnf VARIABLES CLAUSES`"
fault_reason HeaderMalformed = codes "the first line that is no comment is not `p cnf VARIABLES CLAUSES`, or a number in it is over 65,535"
fault_reason EntryMalformed = codes "a word among the clauses is not a literal: a number up to 32,767, with `-` before it for a negation"
fault_reason ClauseUnfinished = codes "the last clause does not end in 0"
fault_reason CountWrong = codes "the clauses are not as many as the header says"
fault_reason MemoryShort = codes "there is too little memory"
fault_reason (Refused e) = solver_reason e
