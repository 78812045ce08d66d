-- What an answer says of a DIMACS text, and what is printed of a refusal.
use Rattle.std.specs.Prelude.{◌≡◌, ℕ, true, List, [], ◌++◌, length, Some, None, Option, codes}
use Rattle.literal.specs.declared.Literal.{Literal}
use Rattle.sat.specs.declared.answer.Answer.{Answer}
use Rattle.sat.specs.declared.answer.Answer.TheVariants.{Yes, No}
use Rattle.sat.specs.declared.fault.SolverFault.TheVariants.{VariableOutOfRange, TooManyLiterals, SizeUnfit}
use Rattle.sat.specs.Clauses.{Clause, satisfies, Unsatisfiable, byte_values}
use Rattle.dimacs_text.specs.Entries.{terminated, spellings}
use Rattle.dimacs_text.specs.Faults.{fault_reason}
use Rattle.dimacs_text.specs.Words.{content, lines}
use Rattle.dimacs_text.specs.Headers.{header_words}
use Rattle.dimacs_text.specs.declared.fault.DimacsFault.{DimacsFault}
use Rattle.dimacs_text.specs.declared.fault.DimacsFault.TheVariants.{Refused}
use Rattle.dimacs_text.specs.declared.head.Header.{Header}

-- values that satisfy the clauses, or none where nothing does
abbrev pub Right : List Clause → Option (List ℕ) → Type 0
Right cs (Some values) = satisfies (byte_values values) cs ≡ true
Right cs None = Unsatisfiable cs []

-- the values that stand beside a yes
abbrev pub said : List ℕ → Answer → Option (List ℕ)
said values Yes = Some values
said values No = None

-- entries are as many clauses as the header says, and the answer is theirs
pub record Decides (entries : List Literal) (h : Header) (a : Option (List ℕ)) : Type 0 where
  pub clauses : List Clause
  pub whole : entries ≡ terminated clauses
  pub counted : length clauses ≡ h.clauses
  pub right : Right clauses a

-- a text's words are a header's and those of clauses, and the answer is theirs
pub record Settles (text : List ℕ) (a : Option (List ℕ)) : Type 0 where
  pub header : Header
  pub clauses : List Clause
  pub whole : content (lines text) ≡ header_words header ++ spellings (terminated clauses)
  pub counted : length clauses ≡ header.clauses
  pub right : Right clauses a

-- a refusal in the words of the text rather than of the solver
abbrev pub reason : DimacsFault → List ℕ
reason (Refused SizeUnfit) = codes "there are more than 8,192 variables"
reason (Refused VariableOutOfRange) = codes "a literal's variable is larger than the header says"
reason (Refused TooManyLiterals) = codes "a clause has more than 64 literals"
reason fault = fault_reason fault
