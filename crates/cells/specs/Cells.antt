-- How clauses lie in cells: the length of each, and then the codes of its literals.
use Rattle.std.specs.Prelude.{◌≡◌, ℕ, zero, suc, ◌+◌, ◌<◌, List, [], ◌∷◌, ◌++◌, map, length, take, drop, slice_index, slice_index_or}
use Rattle.literal.specs.declared.Literal.{Literal}

-- a literal and its code
abbrev pub literal : ℕ → Literal
literal n = record { code = n }

abbrev pub literals : List ℕ → List Literal
literals ns = map literal ns

abbrev pub codes : List Literal → List ℕ
codes ls = map (λ (l : Literal). l.code) ls

-- the cells of a list of clauses
abbrev pub flat : List (List ℕ) → List ℕ
flat [] = []
flat (c ∷ cs) = length c ∷ (c ++ flat cs)

-- the first clauses that cells hold, at most so many
abbrev pub decode : ℕ → List ℕ → List (List ℕ)
decode zero cells = []
decode (suc f) [] = []
decode (suc f) (n ∷ cells) = take n cells ∷ decode f (drop n cells)

-- the clauses that cells hold, by their codes
unfoldable pub clauses : List ℕ → List (List ℕ)
clauses cells = decode (length cells) cells

-- cells that hold clauses and nothing else
abbrev pub Coded : List ℕ → Type 0
Coded cells = flat (clauses cells) ≡ cells

-- cells whose numbers are small enough for a literal's code
abbrev pub Small : List ℕ → Type 0
Small cells = (k : ℕ) → slice_index cells k < 65536

-- at place p of the cells clause number j begins
abbrev pub Starts : List ℕ → ℕ → ℕ → Type 0
Starts cells p j = drop p cells ≡ flat (drop j (clauses cells))

-- at place p of the cells some clause begins, or they end
pub record At (cells : List ℕ) (p : ℕ) : Type 0 where
  pub number : ℕ
  pub starts : Starts cells p number

-- clause number j stands at place p of the cells
pub record Reads (cells : List ℕ) (p j : ℕ) (c : List ℕ) : Type 0 where
  pub clause : c ≡ slice_index_or (clauses cells) j []
  pub below : j < length (clauses cells)
  pub next : Starts cells (p + 1 + length c) (j + 1)
