-- How a literal stands under a table of values, a number for each variable: 0 for none yet, 1 for true and 2 for false. And
-- cells whose literals have places in the table.
use Rattle.std.specs.Prelude.{◌≡◌, ℕ, ◌+◌, ◌/◌, ◌%◌, ◌<◌, ◌≤◌, List, [], length, ◌≢◌, slice_index, slice_index_or}
use Rattle.cells.specs.Cells.{clauses, Coded}

abbrev pub Holds : List ℕ → ℕ → Type 0
Holds value l = slice_index value (l / 2) ≡ 1 + l % 2

abbrev pub Unset : List ℕ → ℕ → Type 0
Unset value l = slice_index value (l / 2) ≡ 0

abbrev pub Fails : List ℕ → ℕ → Type 0
Fails value l = (1 ≤ slice_index value (l / 2)) × (slice_index value (l / 2) ≢ 1 + l % 2)

-- each literal's variable has a place in a table of n places
abbrev pub InTable : List ℕ → ℕ → Type 0
InTable c n = (k : ℕ) → k < length c → slice_index c k / 2 < n

-- some literal of c holds
abbrev pub Met : List ℕ → List ℕ → Type 0
Met value c = (k : ℕ) × ((k < length c) × Holds value (slice_index c k))

-- the cells hold nothing but clauses, whose literals are in a table of n places
pub record Whole (cells : List ℕ) (n : ℕ) : Type 0 where
  pub coded : Coded cells
  pub table : (j : ℕ) → j < length (clauses cells) → InTable (slice_index_or (clauses cells) j []) n

-- each literal's variable is one of 1 to V
abbrev pub Within : List ℕ → ℕ → Type 0
Within c V = (k : ℕ) → k < length c → (1 ≤ slice_index c k / 2) × (slice_index c k / 2 ≤ V)
