-- Which sizes a counting solver takes.
use Rattle.std.specs.Prelude.{ℕ, cond, Some, None, Option, nat_le}
use Rattle.sat.specs.declared.fault.SolverFault.{SolverFault}
use Rattle.sat.specs.declared.fault.SolverFault.TheVariants.{SizeUnfit}

-- up to 20 variables; any count of numbers will do, since every number is a cell
abbrev pub size_fault : ℕ → ℕ → Option SolverFault
size_fault numbers V = cond (nat_le V 20) None (Some SizeUnfit)

-- a size where nothing is refused, and otherwise 0
abbrev pub granted : Option SolverFault → ℕ → ℕ
granted None n = n
granted (Some e) n = 0
