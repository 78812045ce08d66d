-- Ranges of variables, told of codes.
use Rattle.std.proofs.Common.{◌≡◌, ℕ, ◌-◌, ◌≤◌, true, List, [], get_or, ap, ◌∙◌, arith}
use Rattle.literal.specs.declared.Literal.{Literal}
use Rattle.sat.specs.Faults.{in_range}
use Rattle.cells.specs.Cells.{codes, clauses}
use Rattle.cells.specs.Held.{used_cells}
use Rattle.cells.proofs.Codes.{literals_codes}
use Rattle.cells.proofs.Ranges.{range_code, range_codes}
use Rattle.splitting.specs.Cells.{InTable, Within, Whole}
use Rattle.splitting.specs.declared.solver.Splitting.{Splitting}

pub range_within : (V : ℕ) (ls : List Literal) → in_range V ls ≡ true → Within (codes ls) V
range_within V ls e = range_code V (codes ls) (ap (in_range V) (literals_codes ls) ∙ e)

pub within_table : (c : List ℕ) (V size : ℕ) → V ≤ size - 1 → Within c V → InTable c size
within_table c V size h w k b = omega (arith, (w k b).0, (w k b).1)

pub range_table : (V size : ℕ) (ls : List Literal) → V ≤ size - 1 → in_range V ls ≡ true → InTable (codes ls) size
range_table V size ls h e = within_table (codes ls) V size h (range_within V ls e)

pub whole_of : (s : Splitting) (size : ℕ) → s.variables ≤ size - 1 → Whole (used_cells s.cells) size
whole_of s size h = record {
  coded = s.cells.coded;
  table = λ j b. within_table (get_or (clauses (used_cells s.cells)) j []) s.variables size h (range_codes s.variables (clauses (used_cells s.cells)) s.ranged j b);
}
