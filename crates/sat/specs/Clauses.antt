-- What clauses and assumptions mean, and the room that clauses take.
use Rattle.std.specs.Prelude.{◌≡◌, ℕ, ◌+◌, ◌-◌, Bool, true, cond, List, [], ◌∷◌, ◌++◌, length, take, ◌==◌, ◌≢◌, slice_index}
use Rattle.std.specs.List.{list_all, list_any}
use Rattle.literal.specs.declared.Literal.{Literal}
use Rattle.literal.specs.Truth.{Values, truth}

-- a clause is true where one of its literals is
abbrev pub Clause : Type 0
Clause = List Literal

abbrev pub any_true : Values → Clause → Bool
any_true v ls = list_any (truth v) ls

abbrev pub all_true : Values → List Literal → Bool
all_true v ls = list_all (truth v) ls

abbrev pub satisfies : Values → List Clause → Bool
satisfies v cs = list_all (any_true v) cs

-- some values satisfy every clause and make every assumption true
abbrev pub Satisfiable : List Clause → List Literal → Type 0
Satisfiable cs assumed = (v : Values) × (satisfies v cs ≡ true) × (all_true v assumed ≡ true)

abbrev pub Unsatisfiable : List Clause → List Literal → Type 0
Unsatisfiable cs assumed = (v : Values) → satisfies v cs ≡ true → all_true v assumed ≢ true

-- the assumptions whose mark is 1
abbrev pub marked : List Literal → List ℕ → List Literal
marked [] ms = []
marked (l ∷ ls) [] = []
marked (l ∷ ls) (m ∷ ms) = cond (m == 1) (l ∷ marked ls ms) (marked ls ms)

-- the values that bytes hold: the variables whose byte is 1 are true
abbrev pub byte_values : List ℕ → Values
byte_values bytes v = slice_index bytes v == 1

-- the cells that clauses take: one for each literal, and one more for each clause
abbrev pub cells_of : List Clause → ℕ
cells_of [] = 0
cells_of (c ∷ cs) = length c + 1 + cells_of cs

-- what a solver means: the clauses that it holds, its largest variable and its cells
pub record Meaning : Type 0 where
  pub clauses : List Clause
  pub variables : ℕ
  pub cells : ℕ

-- the cells left free
abbrev pub free : Meaning → ℕ
free m = m.cells - cells_of m.clauses

-- the same with other clauses
abbrev pub with_clauses : Meaning → List Clause → Meaning
with_clauses m cs = record { clauses = cs; variables = m.variables; cells = m.cells }

-- the same with a clause more
abbrev pub with_clause : Meaning → Clause → Meaning
with_clause m c = with_clauses m (m.clauses ++ c ∷ [])

-- the same with the first p clauses alone
abbrev pub with_first : Meaning → ℕ → Meaning
with_first m p = with_clauses m (take p m.clauses)
