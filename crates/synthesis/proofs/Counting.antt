-- How many clauses there are before the exceptions.
use Rattle.std.proofs.Common.{◌≡◌, ℕ, suc, ◌+◌, ◌*◌, ◌/◌, ◌%◌, ◌^◌, ◌<◌, ◌≤◌, true, cond, List, [], ◌∷◌, length, sum_by, sym, refl, ap, ◌∙◌, inl, inr, pow-suc, arith, pow_mono}
use lib.Count.{ones, ones_step, ones-le}
use Rattle.std.specs.List.{flat_map, AllByRecursion}
use Rattle.std.proofs.lemmas.List.Sums.{sum_by-cons}
use Rattle.std.proofs.lemmas.List.{length-append, length-map, length-take-le}
use Rattle.std.proofs.lemmas.Bool.{cases_eq, eq-eqb, ne_eqb}
use Rattle.literal.specs.declared.Literal.{Literal}
use Rattle.circuit.specs.declared.record.Gate.{Gate}
use Rattle.circuit.specs.declared.record.Record.{Record}
use Rattle.circuit.specs.Parts.{gates_of, latches_of}
use Rattle.circuit.specs.Sound.{sound}
use Rattle.circuit.specs.Step.{low_bit}
use Rattle.circuit.proofs.Soundness.{soundness}
use Rattle.game.specs.declared.row.Row.{Row}
use Rattle.encoding.specs.Literals.{cared, signed, next_literals, positive, entry_variable}
use Rattle.encoding.specs.Clauses.{implies, constant_clause, bad_clause, entry_clauses, choice_clause, gate_clauses, step_clauses, candidate_base, candidate_row, candidate_rows}
use Rattle.encoding.specs.Laws.{RowFits}
use Rattle.synthesis.specs.Held.{fixed_clauses}

ones_zero : ones 0 ≡ 0
unfolding ones
ones_zero = refl

-- as many literals as the mask has bits
cared_length : (ls : List Literal) (care value : ℕ) → care < 2 ^ length ls → length (cared ls care value) ≡ ones care
cared_length [] care value h = sym (ap ones (let z : care ≡ 0 = omega arith in z) ∙ ones_zero)
cared_length (l ∷ ls) care value h =
    let p : 2 ^ suc (length ls) ≡ 2 ^ length ls * 2 = pow-suc 2 (length ls) in
    let rest = cared_length ls (care / 2) (value / 2) (omega arith) in
    let step = ones_step care in
    elim (cases_eq (care % 2) 1) [
      | inl e ↦ ap (λ b. length (cond b (signed (low_bit value) l ∷ cared ls (care / 2) (value / 2)) (cared ls (care / 2) (value / 2)))) (eq-eqb (care % 2) 1 e) ∙ omega arith
      | inr n ↦ ap (λ b. length (cond b (signed (low_bit value) l ∷ cared ls (care / 2) (value / 2)) (cared ls (care / 2) (value / 2)))) (ne_eqb (care % 2) 1 n) ∙ omega (arith, n)
    ]

gates_length : (M : ℕ) (gs : List Gate) → length (flat_map (gate_clauses M) gs) ≡ 3 * length gs
gates_length M [] = refl
gates_length M (g ∷ gs) = length-append (gate_clauses M g) (flat_map (gate_clauses M) gs) ∙ omega (arith, gates_length M gs)

-- a row's clauses
abbrev row_clauses : Row → ℕ
row_clauses row = ones row.care + 2

module _ (r : Record) (gs : List Gate) (fit : sound r gs ≡ true) where
  pub base_length : length (candidate_base r gs) ≡ 3 * r.gate_count + 2
  unfolding candidate_base
  base_length =
      let s = soundness r gs fit in
      let g = gates_length r.maximum (gates_of r gs) in
      let t = length-take-le r.gate_count gs s.sizes.table in
      length-append (step_clauses r gs) (bad_clause r ∷ []) ∙ omega (arith, length-append (flat_map (gate_clauses r.maximum) (gates_of r gs)) (constant_clause r.maximum ∷ []))

  pub row_length : (row : Row) (i : ℕ) → RowFits r row → length (candidate_row r row i) ≡ ones row.care + 2
  unfolding candidate_row
  row_length row i f =
      let s = soundness r gs fit in
      let n : length (next_literals r) ≡ r.latch_count =
      length-map (latches_of r) _ ∙ length-take-le r.latch_count r.latches (omega (arith, s.sizes.latches, s.sizes.latch_places)) in
      let inside : row.care < 2 ^ length (next_literals r) = rw n f.care in
      let many = cared_length (next_literals r) row.care row.value inside in
      let each = length-map (cared (next_literals r) row.care row.value) (implies (positive (entry_variable r.maximum i))) in
      omega (arith, length-append (entry_clauses r row i) (choice_clause r i ∷ []))

  pub rows_bound : (rows : List Row) → AllByRecursion (RowFits r) rows → sum_by row_clauses rows ≤ 34 * length rows
  rows_bound [] fits = omega arith
  rows_bound (row ∷ rows) fits =
      let s = soundness r gs fit in
      let more : 2 ^ r.latch_count ≤ 2 ^ 32 = pow_mono s.sizes.latches in
      let few = ones-le 32 row.care (omega (arith, fits.0.care)) in
      omega (arith, sum_by-cons row_clauses row rows, rows_bound rows fits.1)

  rows_length : (rows : List Row) (i : ℕ) → AllByRecursion (RowFits r) rows → length (candidate_rows r i rows) ≡ sum_by row_clauses rows
  rows_length [] i fits = refl
  rows_length (row ∷ rows) i fits =
      omega (arith, sum_by-cons row_clauses row rows, length-append (candidate_row r row i) (candidate_rows r (i + 1) rows), row_length row i fits.0, rows_length rows (i + 1) fits.1)

  pub fixed_length : (rows : List Row) → AllByRecursion (RowFits r) rows → length (fixed_clauses r gs rows) ≡ 3 * r.gate_count + 2 + sum_by row_clauses rows
  fixed_length rows fits = omega (arith, base_length, length-append (candidate_base r gs) (candidate_rows r 0 rows), rows_length rows 0 fits)
