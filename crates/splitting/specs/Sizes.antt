-- Which numbers of variables fit into so many borrowed numbers, and what is made of each.
use Rattle.std.specs.Prelude.{ℕ, ◌+◌, ◌-◌, ◌*◌, Bool, cond, ◌&&◌, Some, None, Option, nat_le}
use Rattle.sat.specs.declared.fault.SolverFault.{SolverFault}
use Rattle.sat.specs.declared.fault.SolverFault.TheVariants.{SizeUnfit}

abbrev pub most_variables : ℕ
most_variables = 8192

-- the numbers that the search takes for V variables; the others are cells
abbrev pub search_numbers : ℕ → ℕ
search_numbers V = 4 * (V + 1)

abbrev pub sizes_fit : ℕ → ℕ → Bool
sizes_fit numbers V = nat_le V most_variables && nat_le (search_numbers V) numbers

abbrev pub size_fault : ℕ → ℕ → Option SolverFault
size_fault numbers V = cond (sizes_fit numbers V) None (Some SizeUnfit)

-- over sizes that do not fit a solver has no variables and no cells
abbrev pub variables_over : ℕ → ℕ → ℕ
variables_over numbers V = cond (sizes_fit numbers V) V 0

abbrev pub cells_over : ℕ → ℕ → ℕ
cells_over numbers V = cond (sizes_fit numbers V) (numbers - search_numbers V) 0

abbrev pub column_over : ℕ → ℕ → ℕ
column_over numbers V = cond (sizes_fit numbers V) (V + 1) 0
