-- What the two solvers hold as rows and exceptions are added, and that there is room for it.
use Rattle.std.proofs.Common.{◌≡◌, ℕ, suc, ◌+◌, ◌*◌, ◌<◌, ◌≤◌, List, [], ◌∷◌, ◌++◌, map, length, get_or, take, sym, ap, ◌∙◌, mul-one, mul-add, arith}
use Rattle.std.specs.List.{AllByRecursion}
use Rattle.std.proofs.lemmas.Nat.{mul-le}
use Rattle.std.proofs.lemmas.List.{append_assoc, append-nil, take_at, map_push}
use Rattle.circuit.specs.declared.record.Gate.{Gate}
use Rattle.circuit.specs.declared.record.Record.{Record}
use Rattle.game.specs.Models.{arena_of}
use Rattle.game.specs.Rows.{GoodRows, GoodExceptions}
use Rattle.game.specs.declared.exception.Exception.{Exception}
use Rattle.game.specs.declared.row.Row.{Row}
use Rattle.encoding.specs.Clauses.{answer_base, answer_row, answer_clauses, candidate_base, candidate_row, candidate_rows, exception_clause, candidate_clauses}
use Rattle.encoding.specs.Laws.{RowFits, ExceptionFits}
use Rattle.synthesis.specs.Held.{fixed_clauses}

rows_push : (r : Record) (i : ℕ) (rows : List Row) (row : Row)
    → candidate_rows r i (rows ++ (row ∷ [])) ≡ candidate_rows r i rows ++ candidate_row r row (i + length rows)
rows_push r i [] row = append-nil (candidate_row r row i) ∙ ap (candidate_row r row) (omega arith)
rows_push r i (y ∷ rows) row =
    ap (λ t. candidate_row r y i ++ t) (rows_push r (i + 1) rows row)
    ∙ ap (λ k. candidate_row r y i ++ (candidate_rows r (i + 1) rows ++ candidate_row r row k)) (omega arith)
    ∙ sym (append_assoc (candidate_row r y i) (candidate_rows r (i + 1) rows) (candidate_row r row (i + length (y ∷ rows))))

module _ (r : Record) (gs : List Gate) (rows : List Row) where
  pub candidate_fixed : (xs : List Exception) → candidate_clauses r gs rows xs ≡ fixed_clauses r gs rows ++ map (exception_clause r) xs
  candidate_fixed xs = sym (append_assoc (candidate_base r gs) (candidate_rows r 0 rows) (map (exception_clause r) xs))

  -- leaving the clauses before the exceptions
  pub candidate_keep : (xs : List Exception) (k : ℕ) → k ≡ length (fixed_clauses r gs rows) → take k (candidate_clauses r gs rows xs) ≡ fixed_clauses r gs rows
  candidate_keep xs k e = ap (take k) (candidate_fixed xs) ∙ take_at (fixed_clauses r gs rows) (map (exception_clause r) xs) k (sym e)

  -- and one row more
  pub candidate_row_lem : (row : Row) → fixed_clauses r gs rows ++ candidate_row r row (length rows) ≡ candidate_clauses r gs (rows ++ (row ∷ [])) []
  candidate_row_lem row =
      append_assoc (candidate_base r gs) (candidate_rows r 0 rows) (candidate_row r row (length rows))
      ∙ ap (λ t. candidate_base r gs ++ t) (ap (λ k. candidate_rows r 0 rows ++ candidate_row r row k) (omega arith) ∙ sym (rows_push r 0 rows row)
      ∙ sym (append-nil (candidate_rows r 0 (rows ++ (row ∷ [])))))

  pub candidate_exception : (xs : List Exception) (x : Exception) → candidate_clauses r gs rows xs ++ (exception_clause r x ∷ []) ≡ candidate_clauses r gs rows (xs ++ (x ∷ []))
  candidate_exception xs x =
      ap (λ t. t ++ (exception_clause r x ∷ [])) (candidate_fixed xs)
      ∙ append_assoc (fixed_clauses r gs rows) (map (exception_clause r) xs) (exception_clause r x ∷ [])
      ∙ ap (λ t. fixed_clauses r gs rows ++ t) (sym (map_push (exception_clause r) xs x))
      ∙ sym (candidate_fixed (xs ++ (x ∷ [])))

  pub answer_row_lem : (row : Row) → answer_clauses r gs rows ++ (answer_row r row ∷ []) ≡ answer_clauses r gs (rows ++ (row ∷ []))
  answer_row_lem row =
      append_assoc (answer_base r gs) (map (answer_row r) rows) (answer_row r row ∷ [])
      ∙ ap (λ t. answer_base r gs ++ t) (sym (map_push (answer_row r) rows row))

-- rows and exceptions that are good are of the model's sizes
all_places : {X : Type 0} (P : X → Type 0) (xs : List X) → ((i : ℕ) (d : X) → i < length xs → P (get_or xs i d)) → AllByRecursion P xs
all_places P [] h = tt
all_places P (x ∷ xs) h = (h 0 x (omega arith), all_places P xs (λ i d l. h (suc i) d (omega arith)))

pub rows_fit : (r : Record) (gs : List Gate) (rows : List Row) → GoodRows (arena_of r gs) rows → AllByRecursion (RowFits r) rows
rows_fit r gs rows h =
    all_places (RowFits r) rows (λ i d l. let w = h i d l in record { care = w.care_in_range; value = w.value_in_care })

pub exceptions_fit : (r : Record) (gs : List Gate) (rows : List Row) (xs : List Exception) → GoodExceptions (arena_of r gs) rows xs → AllByRecursion (ExceptionFits r) xs
exceptions_fit r gs rows xs h =
    all_places (ExceptionFits r) xs (λ i d l. let w = h i d l in
    record { state_care = w.state_care_in_range; state_value = w.state_value_in_care; event_care = w.event_care_in_range; event_value = w.event_value_in_care })

-- one more of some size fits where there are fewer than places for them
pub one_more : (size n places : ℕ) → n < places → size * n + size ≤ size * places
one_more size n places h = let p : size * (n + 1) ≤ size * places = mul-le size (n + 1) size places (omega arith) (omega arith) in omega (arith, mul-add size n 1, mul-one size)

pub as_many : (size n places : ℕ) → n ≤ places → size * n ≤ size * places
as_many size n places h = mul-le size n size places (omega arith) h
