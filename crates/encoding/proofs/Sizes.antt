-- The sizes of the clauses.
use Rattle.std.proofs.Common.{◌≡◌, ℕ, suc, ◌+◌, ◌*◌, ◌/◌, ◌%◌, ◌<◌, ◌≤◌, Bool, true, false, cond, List, [], ◌∷◌, ◌++◌, map, length, refl, ◌∙◌, inl, inr, mul-suc, arith}
use Rattle.std.specs.List.{flat_map, AllByRecursion}
use Rattle.std.proofs.ByRecursion.{All-map, All-append, All-weaker}
use Rattle.std.proofs.lemmas.List.{length-map, length-append}
use Rattle.std.proofs.lemmas.List.Folds.{list_all-append}
use Rattle.std.proofs.lemmas.Bool.{and_from, cases_eq, eq-eqb, ne_eqb}
use Rattle.literal.specs.declared.Literal.{Literal}
use Rattle.literal.specs.Truth.{variable_of, negation_of}
use Rattle.circuit.specs.declared.record.Gate.{Gate}
use Rattle.circuit.specs.declared.record.Record.{Record}
use Rattle.circuit.specs.declared.record.Side.TheVariants.{Event}
use Rattle.circuit.specs.Parts.{inputs_of, latches_of, gates_of}
use Rattle.circuit.specs.Sound.{sound, event_count}
use Rattle.circuit.specs.Step.{low_bit}
use Rattle.circuit.proofs.Soundness.{soundness}
use Rattle.sat.specs.Clauses.{Clause}
use Rattle.sat.specs.Faults.{in_range, all_in_range}
use Rattle.sat.proofs.Laws.{range_from, cells_of_append}
use Rattle.game.specs.declared.exception.Exception.{Exception}
use Rattle.game.specs.declared.row.Row.{Row}
use Rattle.encoding.specs.Literals.{positive, negative, clause_literal, due_variable, entry_variable, latch_literals, next_literals, side_literals, signed, cared}
use Rattle.encoding.specs.Clauses.{not_all, implies, gate_clauses, constant_clause, step_clauses, good_clause, bad_clause, answer_base, answer_row, outside_clause, entry_clauses, choice_clause, candidate_base, candidate_row, candidate_rows, exception_clause}
use Rattle.encoding.specs.Laws.{ClausesFit, AnswerFits, CandidateFits, candidate_variables, answer_base_cells, answer_row_cells, candidate_base_cells, candidate_row_cells, exception_cells}
use Rattle.encoding.proofs.Parts.{Own, GateInside, latches_own, sides_own, gates_own, nexts_known, output_known_lem, latch_number, latches_length, gate_number, events_length}

-- a literal of a variable from 1 to the largest
abbrev pub Ranged : ℕ → Literal → Type 0
Ranged V l = (0 < variable_of l) × (variable_of l ≤ V)

pub negation_variable : (l : Literal) → variable_of (negation_of l) ≡ variable_of l
negation_variable l = elim (cases_eq (l.code % 2) 1) [
  | inl e ↦ rw (eq-eqb (l.code % 2) 1 e) (omega arith)
  | inr n ↦ rw (ne_eqb (l.code % 2) 1 n) (omega (arith, n))
]

negation_ranged : (V : ℕ) (l : Literal) → Ranged V l → Ranged V (negation_of l)
negation_ranged V l h = (omega (arith, negation_variable l, h.0), omega (arith, negation_variable l, h.1))

signed_ranged : (V : ℕ) (b : Bool) (l : Literal) → Ranged V l → Ranged V (signed b l)
signed_ranged V true l h = h
signed_ranged V false l h = negation_ranged V l h

positive_ranged : (V x : ℕ) → 0 < x → x ≤ V → Ranged V (positive x)
positive_ranged V x a b = (omega arith, omega arith)

negative_ranged : (V x : ℕ) → 0 < x → x ≤ V → Ranged V (negative x)
negative_ranged V x a b = (omega arith, omega arith)

clause_ranged : (M V : ℕ) (l : Literal) → variable_of l ≤ M → M + 1 ≤ V → Ranged V (clause_literal M l)
clause_ranged M V l h k = elim (cases_eq l.code 0) [
  | inl e ↦ rw (eq-eqb l.code 0 e) (negative_ranged V (M + 1) (omega arith) k)
  | inr n ↦ rw (ne_eqb l.code 0 n) (elim (cases_eq l.code 1) [
    | inl e ↦ rw (eq-eqb l.code 1 e) (positive_ranged V (M + 1) (omega arith) k)
    | inr m ↦ rw (ne_eqb l.code 1 m) (omega (arith, n, m), omega arith)
  ])
]

own_ranged : (M V : ℕ) (l : Literal) → M ≤ V → Own M l → Ranged V l
own_ranged M V l k h = (omega (arith, h.some), omega (arith, h.inside))

ranged_all : (V : ℕ) (ls : List Literal) → AllByRecursion (Ranged V) ls → in_range V ls ≡ true
ranged_all V [] h = refl
ranged_all V (l ∷ ls) h = range_from V l ls h.0.0 h.0.1 (ranged_all V ls h.1)

cared_ranged : (V : ℕ) (ls : List Literal) (care value : ℕ) → AllByRecursion (Ranged V) ls → AllByRecursion (Ranged V) (cared ls care value)
cared_ranged V [] care value h = tt
cared_ranged V (l ∷ ls) care value h =
    let r = cared_ranged V ls (care / 2) (value / 2) h.1 in
    elim (low_bit care) as (λ b. AllByRecursion (Ranged V) (cond b (signed (low_bit value) l ∷ cared ls (care / 2) (value / 2)) (cared ls (care / 2) (value / 2))))
    [ true ↦ (signed_ranged V (low_bit value) l h.0, r) | false ↦ r ]

pub cared_length : (ls : List Literal) (care value : ℕ) → length (cared ls care value) ≤ length ls
cared_length [] care value = omega arith
cared_length (l ∷ ls) care value =
    let r = cared_length ls (care / 2) (value / 2) in
    elim (low_bit care) as (λ b. length (cond b (signed (low_bit value) l ∷ cared ls (care / 2) (value / 2)) (cared ls (care / 2) (value / 2))) ≤ suc (length ls))
    [ true ↦ omega arith | false ↦ omega arith ]

not_all_ranged : (V : ℕ) (ls : List Literal) → AllByRecursion (Ranged V) ls → AllByRecursion (Ranged V) (not_all ls)
not_all_ranged V ls h = All-map (Ranged V) negation_of ls (All-weaker (Ranged V) (λ l. Ranged V (negation_of l)) (negation_ranged V) ls h)

-- clauses that fit, put together

fit_one : (V n : ℕ) (c : Clause) → AllByRecursion (Ranged V) c → length c ≤ 64 → length c + 1 ≤ n → ClausesFit V n (c ∷ [])
fit_one V n c a l k = record { ranged = and_from (in_range V c) true (ranged_all V c a) refl; short = (l, tt); few = omega arith }

fit_none : (V : ℕ) → ClausesFit V 0 []
fit_none V = record { ranged = refl; short = tt; few = omega arith }

fit_append : (V a b n : ℕ) (xs ys : List Clause) → a + b ≤ n → ClausesFit V a xs → ClausesFit V b ys → ClausesFit V n (xs ++ ys)
fit_append V a b n xs ys k f g = record {
  ranged = list_all-append (in_range V) xs ys ∙ and_from (all_in_range V xs) (all_in_range V ys) f.ranged g.ranged;
  short = All-append (λ c. length c ≤ 64) xs ys f.short g.short;
  few = omega (arith, cells_of_append xs ys, f.few, g.few);
}

fit_more : (V a n : ℕ) (xs : List Clause) → a ≤ n → ClausesFit V a xs → ClausesFit V n xs
fit_more V a n xs k f = record { ranged = f.ranged; short = f.short; few = omega (arith, f.few) }

fit_joined : {X : Type 0} (V n : ℕ) (f : X → List Clause) (xs : List X) → AllByRecursion (λ x. ClausesFit V n (f x)) xs → ClausesFit V (n * length xs) (flat_map f xs)
fit_joined V n f [] h = fit_more V 0 (n * 0) [] (omega arith) (fit_none V)
fit_joined V n f (x ∷ xs) h =
    fit_append V n (n * length xs) (n * suc (length xs)) (f x) (flat_map f xs) (omega (arith, mul-suc n (length xs))) h.0 (fit_joined V n f xs h.1)

fit_map : {X : Type 0} (V n : ℕ) (f : X → Clause) (xs : List X) → AllByRecursion (λ x. ClausesFit V n (f x ∷ [])) xs → ClausesFit V (n * length xs) (map f xs)
fit_map V n f [] h = fit_more V 0 (n * 0) [] (omega arith) (fit_none V)
fit_map V n f (x ∷ xs) h =
    fit_append V n (n * length xs) (n * suc (length xs)) (f x ∷ []) (map f xs) (omega (arith, mul-suc n (length xs))) h.0 (fit_map V n f xs h.1)

all_of : {X : Type 0} (P : X → Type 0) → ((x : X) → P x) → (xs : List X) → AllByRecursion P xs
all_of P h [] = tt
all_of P h (x ∷ xs) = (h x, all_of P h xs)

module _ (r : Record) (gs : List Gate) (h : sound r gs ≡ true) (V : ℕ) (wide : r.maximum + 2 ≤ V) where
  latches_ranged : AllByRecursion (Ranged V) (latch_literals r)
  latches_ranged =
      All-weaker (Own r.maximum) (Ranged V) (λ l o. own_ranged r.maximum V l (omega arith) o) (latch_literals r) (latches_own r gs h)

  events_ranged : AllByRecursion (Ranged V) (side_literals Event r)
  events_ranged =
      All-weaker (Own r.maximum) (Ranged V) (λ l o. own_ranged r.maximum V l (omega arith) o) (side_literals Event r) (sides_own r gs h Event)

  nexts_ranged : AllByRecursion (Ranged V) (next_literals r)
  nexts_ranged =
      All-map (Ranged V) (λ l. clause_literal r.maximum l.next) (latches_of r)
      (All-weaker (λ l. variable_of l.next ≤ r.maximum) (λ l. Ranged V (clause_literal r.maximum l.next))
      (λ l k. clause_ranged r.maximum V l.next k (omega arith)) (latches_of r) (nexts_known r gs h))

  nexts_length : length (next_literals r) ≡ r.latch_count
  nexts_length = length-map (latches_of r) (λ l. clause_literal r.maximum l.next) ∙ latch_number r gs h

  few_latches : r.latch_count ≤ 32
  few_latches = (soundness r gs h).sizes.latches

  gate_fits : (g : Gate) → GateInside r.maximum g → ClausesFit V 10 (gate_clauses r.maximum g)
  gate_fits g k =
      let o = clause_ranged r.maximum V g.output k.output.inside (omega arith) in
      let p = clause_ranged r.maximum V g.left k.left (omega arith) in
      let q = clause_ranged r.maximum V g.right k.right (omega arith) in
      fit_append V 3 7 10 (implies (clause_literal r.maximum g.output) (clause_literal r.maximum g.left) ∷ []) _ (omega arith)
      (fit_one V 3 _ (negation_ranged V _ o, (p, tt)) (omega arith) (omega arith))
      (fit_append V 3 4 7 (implies (clause_literal r.maximum g.output) (clause_literal r.maximum g.right) ∷ []) _ (omega arith)
      (fit_one V 3 _ (negation_ranged V _ o, (q, tt)) (omega arith) (omega arith))
      (fit_one V 4 _ (o, (negation_ranged V _ p, (negation_ranged V _ q, tt))) (omega arith) (omega arith)))

  step_fits : ClausesFit V (10 * r.gate_count + 2) (step_clauses r gs)
  step_fits =
      let gates = fit_joined V 10 (gate_clauses r.maximum) (gates_of r gs)
      (All-weaker (GateInside r.maximum) (λ g. ClausesFit V 10 (gate_clauses r.maximum g)) gate_fits (gates_of r gs) (gates_own r gs h)) in
      fit_append V (10 * length (gates_of r gs)) 2 (10 * r.gate_count + 2) (flat_map (gate_clauses r.maximum) (gates_of r gs)) (constant_clause r.maximum ∷ [])
      (omega (arith, gate_number r gs h)) gates
      (fit_one V 2 (constant_clause r.maximum) (positive_ranged V (r.maximum + 1) (omega arith) (omega arith), tt) (omega arith) (omega arith))

  output_ranged : Ranged V (clause_literal r.maximum r.output)
  output_ranged = clause_ranged r.maximum V r.output (output_known_lem r gs h) (omega arith)

  not_all_fits : (ls : List Literal) (n : ℕ) → AllByRecursion (Ranged V) ls → length ls ≤ n → n ≤ 63 → ClausesFit V (n + 1) (not_all ls ∷ [])
  not_all_fits ls n a k few =
      fit_one V (n + 1) (not_all ls) (not_all_ranged V ls a) (omega (arith, length-map ls negation_of)) (omega (arith, length-map ls negation_of))

  pub answer_fits : AnswerFits r gs V
  unfolding answer_base answer_row
  answer_fits = record {
    base = base_fits;
    row = row_fits;
    all = λ rows.
        fit_append V (answer_base_cells r) (answer_row_cells r * length rows) _ (answer_base r gs) (map (answer_row r) rows) (omega arith) base_fits
        (fit_map V (answer_row_cells r) (answer_row r) rows (all_of (λ row. ClausesFit V (answer_row_cells r) (answer_row r row ∷ [])) row_fits rows));
  }
    where
      base_fits : ClausesFit V (answer_base_cells r) (answer_base r gs)
      base_fits =
          fit_append V (10 * r.gate_count + 2) 2 _ (step_clauses r gs) (good_clause r ∷ []) (omega arith) step_fits
          (fit_one V 2 (good_clause r) (negation_ranged V _ output_ranged, tt) (omega arith) (omega arith))

      row_fits : (row : Row) → ClausesFit V (answer_row_cells r) (answer_row r row ∷ [])
      row_fits row =
          not_all_fits (cared (next_literals r) row.care row.value) r.latch_count (cared_ranged V (next_literals r) row.care row.value nexts_ranged)
          (omega (arith, cared_length (next_literals r) row.care row.value, nexts_length)) (omega (arith, few_latches))

  candidate_base_fits : ClausesFit V (candidate_base_cells r) (candidate_base r gs)
  unfolding candidate_base
  candidate_base_fits =
      fit_append V (10 * r.gate_count + 2) 3 _ (step_clauses r gs) (bad_clause r ∷ []) (omega arith) step_fits
      (fit_one V 3 (bad_clause r)
      (negation_ranged V _ (positive_ranged V (due_variable r.maximum 0) (omega arith) (omega arith)), (output_ranged, tt)) (omega arith) (omega arith))

  exception_fits : (x : Exception) → ClausesFit V (exception_cells r) (exception_clause r x ∷ [])
  unfolding exception_clause
  exception_fits x =
      let ss = cared (latch_literals r) x.state_care x.state_value in
      let es = cared (side_literals Event r) x.event_care x.event_value in
      not_all_fits (ss ++ es) (r.latch_count + event_count (inputs_of r))
      (All-append (Ranged V) ss es (cared_ranged V (latch_literals r) x.state_care x.state_value latches_ranged)
      (cared_ranged V (side_literals Event r) x.event_care x.event_value events_ranged))
      (omega (
        arith,
        length-append ss es,
        cared_length (latch_literals r) x.state_care x.state_value,
        latches_length r gs h,
        cared_length (side_literals Event r) x.event_care x.event_value,
        events_length r gs h,
      ))
      (omega (arith, few_latches, (soundness r gs h).events))

  -- a row at a place whose variables are in range
  module _ (i : ℕ) (placed : due_variable r.maximum (i + 1) ≤ V) where
    entries_fit : (ls : List Literal) → AllByRecursion (Ranged V) ls
        → ClausesFit V (3 * length ls) (map (implies (positive (entry_variable r.maximum i))) ls)
    entries_fit ls a =
        fit_map V 3 (implies (positive (entry_variable r.maximum i))) ls
        (All-weaker (Ranged V) (λ l. ClausesFit V 3 (implies (positive (entry_variable r.maximum i)) l ∷ []))
        (λ l k. fit_one V 3 _ (negation_ranged V _ (positive_ranged V (entry_variable r.maximum i) (omega arith) (omega arith)), (k, tt)) (omega arith) (omega arith)) ls a)

    pub candidate_row_fits : (row : Row) → ClausesFit V (candidate_row_cells r) (candidate_row r row i)
    unfolding candidate_row
    candidate_row_fits row =
        let L : ℕ = r.latch_count in
        let nexts = cared (next_literals r) row.care row.value in
        let outside = cared (latch_literals r) row.care row.value in
        let few-nexts : length nexts ≤ L = omega (arith, cared_length (next_literals r) row.care row.value, nexts_length) in
        fit_append V (L + 1) (3 * L + 4) (candidate_row_cells r) (outside_clause r row ∷ []) (entry_clauses r row i ++ choice_clause r i ∷ []) (omega arith)
        (not_all_fits outside L (cared_ranged V (latch_literals r) row.care row.value latches_ranged)
        (omega (arith, cared_length (latch_literals r) row.care row.value, latches_length r gs h)) (omega (arith, few_latches)))
        (fit_append V (3 * length nexts) 4 (3 * L + 4) (entry_clauses r row i) (choice_clause r i ∷ []) (omega arith)
        (entries_fit nexts (cared_ranged V (next_literals r) row.care row.value nexts_ranged))
        (fit_one V 4 (choice_clause r i) (
          negative_ranged V (due_variable r.maximum (i + 1)) (omega arith) placed,
          (
            positive_ranged V (entry_variable r.maximum i) (omega arith) (omega arith),
            (positive_ranged V (due_variable r.maximum i) (omega arith) (omega arith), tt),
          ),
        ) (omega arith) (omega arith)))

  rows_fit : (i : ℕ) (rows : List Row) → r.maximum + 2 * (i + length rows) + 2 ≤ V → ClausesFit V (candidate_row_cells r * length rows) (candidate_rows r i rows)
  rows_fit i [] k = fit_more V 0 _ [] (omega arith) (fit_none V)
  rows_fit i (row ∷ rows) k =
      fit_append V (candidate_row_cells r) (candidate_row_cells r * length rows) _ (candidate_row r row i) (candidate_rows r (i + 1) rows)
      (omega (arith, mul-suc (candidate_row_cells r) (length rows)))
      (candidate_row_fits i (omega arith) row) (rows_fit (i + 1) rows (omega arith))

  pub candidate_fits : (places : ℕ) → candidate_variables r places ≤ V → CandidateFits r gs places V
  candidate_fits places k = record {
    base = candidate_base_fits;
    row = λ row i l. candidate_row_fits i (omega arith) row;
    exception = exception_fits;
    all = λ rows xs few.
        fit_append V (candidate_base_cells r) (candidate_row_cells r * length rows + exception_cells r * length xs) _ (candidate_base r gs)
        (candidate_rows r 0 rows ++ map (exception_clause r) xs) (omega arith) candidate_base_fits
        (fit_append V (candidate_row_cells r * length rows) (exception_cells r * length xs) _ (candidate_rows r 0 rows) (map (exception_clause r) xs) (omega arith)
        (rows_fit 0 rows (omega arith))
        (fit_map V (exception_cells r) (exception_clause r) xs (all_of (λ x. ClausesFit V (exception_cells r) (exception_clause r x ∷ [])) exception_fits xs)));
  }
