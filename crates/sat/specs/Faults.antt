-- Why a solver refuses a call: the number of each refusal, and when it comes. Within a call the lowest number comes first.
use Rattle.std.specs.Prelude.{ℕ, Bool, cond, ◌&&◌, List, length, Some, None, Option, nat_le, nat_lt}
use Rattle.std.specs.List.{list_all}
use Rattle.literal.specs.declared.Literal.{Literal}
use Rattle.literal.specs.Truth.{variable_of}
use Rattle.sat.specs.declared.fault.SolverFault.{SolverFault}
use Rattle.sat.specs.declared.fault.SolverFault.TheVariants.{VariableOutOfRange, TooManyLiterals, CellsFull, CountExceeded, BufferShort, SizeUnfit, FirstExceeded}
use Rattle.sat.specs.Clauses.{Clause}

abbrev pub fault_number : SolverFault → ℕ
fault_number VariableOutOfRange = 20
fault_number TooManyLiterals = 21
fault_number CellsFull = 22
fault_number CountExceeded = 23
fault_number BufferShort = 24
fault_number SizeUnfit = 25
fault_number FirstExceeded = 26

-- the most literals of a clause, and the most assumptions
abbrev pub most_literals : ℕ
most_literals = 64

-- whether a literal's variable is one of 1 to V
abbrev pub is_one_of : ℕ → Literal → Bool
is_one_of V l = nat_lt 0 (variable_of l) && nat_le (variable_of l) V

-- whether each literal's is
abbrev pub in_range : ℕ → List Literal → Bool
in_range V ls = list_all (is_one_of V) ls

-- the refusals that clauses and assumptions share, and then the others
unfoldable pub literals_fault : ℕ → List Literal → Option SolverFault → Option SolverFault
literals_fault V ls others = cond (in_range V ls) (cond (nat_le (length ls) most_literals) others (Some TooManyLiterals)) (Some VariableOutOfRange)

-- a clause, where so many cells are left free
unfoldable pub hold_fault : ℕ → ℕ → Clause → Option SolverFault
hold_fault V free c = literals_fault V c (cond (nat_lt (length c) free) None (Some CellsFull))

-- leaving the first p of so many clauses
unfoldable pub keep_fault : ℕ → ℕ → Option SolverFault
keep_fault count p = cond (nat_le p count) None (Some CountExceeded)

-- whether the buffers for values and for marks are long enough
abbrev pub buffers_fit : ℕ → List Literal → ℕ → ℕ → Bool
buffers_fit V assumed values marks = nat_lt V values && nat_le (length assumed) marks

unfoldable pub decide_fault : ℕ → List Literal → ℕ → ℕ → Option SolverFault
decide_fault V assumed values marks = literals_fault V assumed (cond (buffers_fit V assumed values marks) None (Some BufferShort))

unfoldable pub narrow_fault : ℕ → List Literal → ℕ → ℕ → ℕ → Option SolverFault
narrow_fault V assumed first values marks =
    literals_fault V assumed
    (cond (buffers_fit V assumed values marks) (cond (nat_le first (length assumed)) None (Some FirstExceeded)) (Some BufferShort))

-- whether each clause is in range
abbrev pub all_in_range : ℕ → List Clause → Bool
all_in_range V cs = list_all (in_range V) cs
