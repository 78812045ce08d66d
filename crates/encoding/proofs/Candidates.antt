-- The candidate clauses, where something is due, are satisfied exactly at candidates.
use Rattle.std.proofs.Common.{◌≡◌, ℕ, zero, suc, ◌+◌, ◌-◌, ◌*◌, ◌/◌, ◌%◌, ◌^◌, ◌<◌, Bool, true, false, cond, not, ◌&&◌, ◌||◌, eqb, ◌⊎◌, List, [], ◌∷◌, ◌++◌, map, length, get_or, sym, refl, ap, ◌∙◌, subst, inl, inr, add-one, arith}
use Rattle.std.specs.List.{AllByRecursion}
use Rattle.std.proofs.lemmas.Bool.{and_parts, and_from, or_cases, or_left, or_right, or_parts, both_ways, not-true, not_from_false, eq-eqb, ne_eqb, cond-true, cond-false}
use Rattle.literal.specs.declared.Literal.{Literal}
use Rattle.literal.specs.Truth.{Values, truth}
use Rattle.circuit.specs.declared.record.Gate.{Gate}
use Rattle.circuit.specs.declared.record.Record.{Record}
use Rattle.circuit.specs.declared.record.Side.TheVariants.{Event}
use Rattle.circuit.specs.Sound.{sound}
use Rattle.circuit.specs.Step.{bad_at, next_at}
use Rattle.roll.proofs.First.{first_of}
use Rattle.sat.specs.Clauses.{any_true, all_true, satisfies}
use Rattle.sat.proofs.Laws.{satisfies_append, satisfies_parts}
use Rattle.game.specs.Models.{arena_of}
use Rattle.game.specs.Rows.{agrees, row_covers, covered, excepted, exception_covers, good, blank_row}
use Rattle.game.proofs.Covered.{not_good}
use Rattle.game.specs.declared.exception.Exception.{Exception}
use Rattle.game.specs.declared.row.Row.{Row}
use Rattle.encoding.specs.Literals.{positive, clause_literal, due_variable, entry_variable, latch_literals, next_literals, side_literals, state_in, event_in, answer_in, cared}
use Rattle.encoding.specs.Clauses.{implies, step_clauses, bad_clause, outside_clause, entry_clauses, choice_clause, candidate_base, candidate_row, candidate_rows, exception_clause}
use Rattle.encoding.specs.Laws.{RowFits, ExceptionFits, CandidateSound, CandidateComplete}
use Rattle.encoding.proofs.Answering.{not_or, next_covered}
use Rattle.encoding.proofs.Meaning.{truth_negation, cared_true, not_all_true}
use Rattle.encoding.proofs.Parts.{latches_length, events_length}
use Rattle.encoding.proofs.Steps.{Encodes, truth_positive, truth_negative, step_sound, step_satisfied, output_bad, says, state_is, event_is, chosen, chosen_past, chosen_encodes}

implies_true : (v : Values) (p q : Literal) → any_true v (implies p q) ≡ (not (truth v p) || truth v q)
implies_true v p q = ap (λ b. b || (truth v q || false)) (truth_negation v p) ∙ plain (not (truth v p)) (truth v q)
  where
    plain : (a b : Bool) → (a || (b || false)) ≡ (a || b)
    plain true b = refl
    plain false true = refl
    plain false false = refl

-- literals that a guard implies, one by one and all together
guarded_true : (v : Values) (p : Literal) (ls : List Literal) → satisfies v (map (implies p) ls) ≡ (not (truth v p) || all_true v ls)
guarded_true v p [] = either (not (truth v p))
  where
    either : (b : Bool) → true ≡ (b || true)
    either true = refl
    either false = refl
guarded_true v p (l ∷ ls) =
    ap (λ b. b && satisfies v (map (implies p) ls)) (implies_true v p l) ∙ ap (λ b. (not (truth v p) || truth v l) && b) (guarded_true v p ls)
    ∙ spread (not (truth v p)) (truth v l) (all_true v ls)
  where
    spread : (a b c : Bool) → ((a || b) && (a || c)) ≡ (a || (b && c))
    spread true b c = refl
    spread false b c = refl

module _ (r : Record) (gs : List Gate) (h : sound r gs ≡ true) (v : Values) where
  -- a row's clause is true exactly where the row does not cover the state, and an exception's likewise
  outside_true : (row : Row) → RowFits r row → any_true v (outside_clause r row) ≡ not (row_covers row (state_in r v))
  outside_true row fit =
      not_all_true v (cared (latch_literals r) row.care row.value)
      ∙ ap not (cared_true v (latch_literals r) row.care row.value (subst (λ n. row.care < 2 ^ n) (sym (latches_length r gs h)) fit.care) fit.value)

  all_append_is : (xs ys : List Literal) → all_true v (xs ++ ys) ≡ (all_true v xs && all_true v ys)
  all_append_is [] ys = refl
  all_append_is (x ∷ xs) ys =
      ap (λ b. truth v x && b) (all_append_is xs ys)
      ∙ elim (truth v x) as (λ b. (b && (all_true v xs && all_true v ys)) ≡ ((b && all_true v xs) && all_true v ys)) [ true ↦ refl | false ↦ refl ]

  exception_true : (x : Exception) → ExceptionFits r x → any_true v (exception_clause r x) ≡ not (exception_covers x (state_in r v) (event_in r v))
  unfolding exception_clause
  exception_true x fit =
      let ss = cared (latch_literals r) x.state_care x.state_value in
      let es = cared (side_literals Event r) x.event_care x.event_value in
      not_all_true v (ss ++ es)
      ∙ ap not (all_append_is ss es
      ∙ ap (λ b. b && all_true v es) (cared_true v (latch_literals r) x.state_care x.state_value (subst (λ n. x.state_care < 2 ^ n) (sym (latches_length r gs h)) fit.state_care) fit.state_value)
      ∙ ap (λ b. agrees x.state_care x.state_value (state_in r v) && b)
      (cared_true v (side_literals Event r) x.event_care x.event_value (subst (λ n. x.event_care < 2 ^ n) (sym (events_length r gs h)) fit.event_care) fit.event_value))

  exceptions_true : (xs : List Exception) → AllByRecursion (ExceptionFits r) xs
      → satisfies v (map (exception_clause r) xs) ≡ not (excepted xs (state_in r v) (event_in r v))
  exceptions_true [] fit = refl
  exceptions_true (x ∷ xs) fit =
      ap (λ b. b && satisfies v (map (exception_clause r) xs)) (exception_true x fit.0)
      ∙ ap (λ b. not (exception_covers x (state_in r v) (event_in r v)) && b) (exceptions_true xs fit.1)
      ∙ not_or (exception_covers x (state_in r v) (event_in r v)) (excepted xs (state_in r v) (event_in r v))

  module _ (s e a : ℕ) (enc : Encodes r gs v s e a) where
    abbrev due : ℕ → Bool
    due i = v (due_variable r.maximum i)

    abbrev entry : ℕ → Bool
    entry i = v (entry_variable r.maximum i)

    entries_true : (row : Row) → RowFits r row → (i : ℕ)
        → satisfies v (entry_clauses r row i) ≡ (not (entry i) || row_covers row (next_at r gs s e a))
    entries_true row fit i =
        guarded_true v (positive (entry_variable r.maximum i)) (cared (next_literals r) row.care row.value)
        ∙ ap (λ b. not b || all_true v (cared (next_literals r) row.care row.value)) (truth_positive v (entry_variable r.maximum i))
        ∙ ap (λ b. not (entry i) || b) (next_covered r gs h v s e a enc row fit)

    choice_true : (i : ℕ) → any_true v (choice_clause r i) ≡ (not (due (i + 1)) || (entry i || due i))
    choice_true i =
        ap (λ b. b || (truth v (positive (entry_variable r.maximum i)) || (truth v (positive (due_variable r.maximum i)) || false))) (truth_negative v (due_variable r.maximum (i + 1)))
        ∙ ap (λ b. not (due (i + 1)) || (b || (truth v (positive (due_variable r.maximum i)) || false))) (truth_positive v (entry_variable r.maximum i))
        ∙ ap (λ b. not (due (i + 1)) || (entry i || (b || false))) (truth_positive v (due_variable r.maximum i))
        ∙ ap (λ b. not (due (i + 1)) || (entry i || b)) (plain (due i))
      where
        plain : (b : Bool) → (b || false) ≡ b
        plain true = refl
        plain false = refl

    bad_true : satisfies v (bad_clause r ∷ []) ≡ (not (due 0) || bad_at r gs s e a)
    bad_true =
        ap (λ b. b && true) (implies_true v (positive (due_variable r.maximum 0)) (clause_literal r.maximum r.output))
        ∙ ap (λ b. (not b || truth v (clause_literal r.maximum r.output)) && true) (truth_positive v (due_variable r.maximum 0))
        ∙ ap (λ b. (not (due 0) || b) && true) (output_bad r gs h v s e a enc)
        ∙ plain (not (due 0) || bad_at r gs s e a)
      where
        plain : (b : Bool) → (b && true) ≡ b
        plain true = refl
        plain false = refl

    -- what the clauses of a row say
    record RowSays (row : Row) (i : ℕ) : Type 0 where
      pub outside : not (row_covers row (state_in r v)) ≡ true
      pub enters : (not (entry i) || row_covers row (next_at r gs s e a)) ≡ true
      pub chooses : (not (due (i + 1)) || (entry i || due i)) ≡ true

    row_says : (row : Row) → RowFits r row → (i : ℕ) → satisfies v (candidate_row r row i) ≡ true → RowSays row i
    unfolding candidate_row
    row_says row fit i sat =
        let p = and_parts (any_true v (outside_clause r row)) (satisfies v (entry_clauses r row i ++ choice_clause r i ∷ [])) sat in
        let q = satisfies_parts v (entry_clauses r row i) (choice_clause r i ∷ []) p.1 in
        record {
          outside = sym (outside_true row fit) ∙ p.0;
          enters = sym (entries_true row fit i) ∙ q.0;
          chooses = sym (choice_true i) ∙ (and_parts (any_true v (choice_clause r i)) true q.1).0;
        }

    row_satisfied : (row : Row) → RowFits r row → (i : ℕ) → RowSays row i → satisfies v (candidate_row r row i) ≡ true
    unfolding candidate_row
    row_satisfied row fit i w =
        and_from (any_true v (outside_clause r row)) (satisfies v (entry_clauses r row i ++ choice_clause r i ∷ [])) (outside_true row fit ∙ w.outside)
        (satisfies_append v (entry_clauses r row i) (choice_clause r i ∷ []) (entries_true row fit i ∙ w.enters)
        (and_from (any_true v (choice_clause r i)) true (choice_true i ∙ w.chooses) refl))

    holds_then : (a b : Bool) → (not a || b) ≡ true → a ≡ true → b ≡ true
    holds_then true b e t = e
    holds_then false b e t = absurd (both_ways false refl t)

    -- the rows do not cover the state, and what is due by all of them is due by none, or is a step into one
    rows_say : (i : ℕ) (rows : List Row) → AllByRecursion (RowFits r) rows → satisfies v (candidate_rows r i rows) ≡ true
        → (covered rows (state_in r v) ≡ false) × (due (i + length rows) ≡ true → (due i ≡ true) ⊎ (covered rows (next_at r gs s e a) ≡ true))
    rows_say i [] fit sat = (refl, λ d. inl (ap due (let z : i ≡ i + 0 = omega arith in z) ∙ d))
    rows_say i (row ∷ rows) fit sat =
        let p = satisfies_parts v (candidate_row r row i) (candidate_rows r (i + 1) rows) sat in
        let w = row_says row fit.0 i p.0 in
        let rest = rows_say (i + 1) rows fit.1 p.1 in
        let next = next_at r gs s e a in (
          ap (λ b. b || covered rows (state_in r v)) (not-true (row_covers row (state_in r v)) w.outside) ∙ rest.0,
          λ d. elim (rest.1 (ap due (let z : (i + 1) + length rows ≡ i + suc (length rows) = omega arith in z) ∙ d)) [
            | inr c ↦ inr (or_right (row_covers row next) (covered rows next) c)
            | inl t ↦ (elim (or_cases (entry i) (due i) (holds_then (due (i + 1)) (entry i || due i) w.chooses t)) [
              | inl t' ↦ inr (or_left (row_covers row next) (covered rows next) (holds_then (entry i) (row_covers row next) w.enters t'))
              | inr d' ↦ inl d'
            ])
          ],
        )

pub candidate_sound : CandidateSound
unfolding candidate_base
candidate_sound r gs h rows fit xs fits v sat due =
    let p = satisfies_parts v (candidate_base r gs) (candidate_rows r 0 rows ++ map (exception_clause r) xs) sat in
    let q = satisfies_parts v (step_clauses r gs) (bad_clause r ∷ []) p.0 in
    let k = satisfies_parts v (candidate_rows r 0 rows) (map (exception_clause r) xs) p.1 in
    let s = state_in r v in
    let e = event_in r v in
    let a = answer_in r v in
    let enc = step_sound r gs h v q.0 in
    let w = rows_say r gs h v s e a enc 0 rows fit k.0 in
    let last : v (due_variable r.maximum (0 + length rows)) ≡ true =
    ap (λ n. v (due_variable r.maximum n)) (let z : 0 + length rows ≡ length rows = omega arith in z) ∙ sym (truth_positive v (due_variable r.maximum (length rows))) ∙ due in
    record {
      uncovered = w.0;
      unexcepted = not-true (excepted xs s e) (sym (exceptions_true r gs h v xs fits) ∙ k.1);
      not_good = elim (w.1 last) [
        | inl d ↦ ap (λ b. not b && not (covered rows (next_at r gs s e a))) (holds_then r gs h v s e a enc (v (due_variable r.maximum 0)) (bad_at r gs s e a) (sym (bad_true r gs h v s e a enc) ∙ q.1) d)
        | inr c ↦ (ap (λ b. not (bad_at r gs s e a) && not b) c ∙ none (not (bad_at r gs s e a)))
      ];
    }
  where
    none : (b : Bool) → (b && false) ≡ false
    none true = refl
    none false = refl

-- what is due by the first rows, from what each row's step is
due_at : Bool → (ℕ → Bool) → ℕ → Bool
due_at bad enters zero = bad
due_at bad enters (suc i) = enters i || due_at bad enters i

module _ (bad : Bool) (enters : ℕ → Bool) where
  due_none : due_at bad enters 0 ≡ bad
  unfolding due_at
  due_none = refl

  due_next : (i : ℕ) → due_at bad enters (i + 1) ≡ (enters i || due_at bad enters i)
  unfolding due_at
  due_next i = ap (due_at bad enters) (add-one i)

  due_later : (i k : ℕ) → due_at bad enters i ≡ true → due_at bad enters (k + i) ≡ true
  unfolding due_at
  due_later i zero t = ap (due_at bad enters) (let z : 0 + i ≡ i = omega arith in z) ∙ t
  due_later i (suc k) t =
      ap (due_at bad enters) (let z : suc k + i ≡ suc (k + i) = omega arith in z) ∙ or_right (enters (k + i)) (due_at bad enters (k + i)) (due_later i k t)

  due_bad : (n : ℕ) → bad ≡ true → due_at bad enters n ≡ true
  unfolding due_at
  due_bad n t = ap (due_at bad enters) (let z : n ≡ n + 0 = omega arith in z) ∙ due_later 0 n t

  due_enters : (n i : ℕ) → i < n → enters i ≡ true → due_at bad enters n ≡ true
  unfolding due_at
  due_enters n i l t =
      ap (due_at bad enters) (let z : n ≡ (n - suc i) + suc i = omega arith in z) ∙ due_later (suc i) (n - suc i) (or_left (enters i) (due_at bad enters i) t)

-- the variables past the constant: what is due, and each row's step
rest_of : ℕ → Bool → (ℕ → Bool) → Values
rest_of M bad enters x = cond (eqb ((x - (M + 2)) % 2) 0) (due_at bad enters ((x - (M + 2)) / 2)) (enters ((x - (M + 2)) / 2))

rest_due : (M : ℕ) (bad : Bool) (enters : ℕ → Bool) (i : ℕ) → rest_of M bad enters (due_variable M i) ≡ due_at bad enters i
unfolding rest_of
rest_due M bad enters i =
    cond-true (eqb ((due_variable M i - (M + 2)) % 2) 0) _ _ (eq-eqb ((due_variable M i - (M + 2)) % 2) 0 (omega arith))
    ∙ ap (due_at bad enters) (let z : (M + 2 + 2 * i - (M + 2)) / 2 ≡ i = omega arith in z)

rest_entry : (M : ℕ) (bad : Bool) (enters : ℕ → Bool) (i : ℕ) → rest_of M bad enters (entry_variable M i) ≡ enters i
unfolding rest_of
rest_entry M bad enters i =
    cond-false (eqb ((entry_variable M i - (M + 2)) % 2) 0) _ _ (ne_eqb ((entry_variable M i - (M + 2)) % 2) 0 (λ z. omega arith))
    ∙ ap enters (let z : (M + 3 + 2 * i - (M + 2)) / 2 ≡ i = omega arith in z)

implied : (a b : Bool) → (a ≡ true → b ≡ true) → (not a || b) ≡ true
implied true b f = f refl
implied false b f = refl

same_implied : (a b : Bool) → a ≡ b → (not a || b) ≡ true
same_implied a b e = implied a b (λ t. sym e ∙ t)

module _ (r : Record) (gs : List Gate) (h : sound r gs ≡ true) (v : Values) (s e a : ℕ) (enc : Encodes r gs v s e a) where
  rows_satisfied : (i : ℕ) (rows : List Row) → AllByRecursion (RowFits r) rows → covered rows (state_in r v) ≡ false
      → ((j : ℕ) → v (due_variable r.maximum (j + 1)) ≡ (v (entry_variable r.maximum j) || v (due_variable r.maximum j)))
      → ((k : ℕ) → k < length rows → v (entry_variable r.maximum (i + k)) ≡ row_covers (get_or rows k blank_row) (next_at r gs s e a))
      → satisfies v (candidate_rows r i rows) ≡ true
  rows_satisfied i [] fit out dues enters = refl
  rows_satisfied i (row ∷ rows) fit out dues enters =
      let p = or_parts (row_covers row (state_in r v)) (covered rows (state_in r v)) out in
      let here : v (entry_variable r.maximum i) ≡ row_covers row (next_at r gs s e a) =
      ap (λ n. v (entry_variable r.maximum n)) (let z : i ≡ i + 0 = omega arith in z) ∙ enters 0 (omega arith) in
      satisfies_append v (candidate_row r row i) (candidate_rows r (i + 1) rows)
      (row_satisfied r gs h v s e a enc row fit.0 i (record {
        outside = not_from_false (row_covers row (state_in r v)) p.0;
        enters = same_implied _ _ here;
        chooses = same_implied _ _ (dues i);
      }))
      (rows_satisfied (i + 1) rows fit.1 p.1 dues
      (λ k l. ap (λ n. v (entry_variable r.maximum n)) (let z : (i + 1) + k ≡ i + suc k = omega arith in z) ∙ enters (suc k) (omega arith)))

-- something is due at a step that is not good
due_there : (r : Record) (gs : List Gate) (rows : List Row) (s e a : ℕ) → good (arena_of r gs) rows s e a ≡ false
    → due_at (bad_at r gs s e a) (λ i. row_covers (get_or rows i blank_row) (next_at r gs s e a)) (length rows) ≡ true
due_there r gs rows s e a bad = elim (not_good (arena_of r gs) rows s e a bad) [
  | inl b ↦ due_bad (bad_at r gs s e a) enters (length rows) b
  | inr c ↦ (let f = first_of (λ row. row_covers row (next_at r gs s e a)) rows c in
      due_enters (bad_at r gs s e a) enters (length rows) f.0 f.1.within (f.1.passes blank_row))
]
  where
    enters : ℕ → Bool
    enters i = row_covers (get_or rows i blank_row) (next_at r gs s e a)

pub candidate_complete : CandidateComplete
unfolding candidate_base
candidate_complete r gs h rows fit xs fits s e a ls le la cand =
    let bad : Bool = bad_at r gs s e a in
    let enters : ℕ → Bool = λ i. row_covers (get_or rows i blank_row) (next_at r gs s e a) in
    let M : ℕ = r.maximum in
    let v : Values = chosen r gs h s e a (rest_of M bad enters) in
    let enc = chosen_encodes r gs h s e a (rest_of M bad enters) in
    let dues : (i : ℕ) → v (due_variable M i) ≡ due_at bad enters i =
    λ i. chosen_past r gs h s e a (rest_of M bad enters) (due_variable M i) (omega arith) ∙ rest_due M bad enters i in
    let entries : (i : ℕ) → v (entry_variable M i) ≡ enters i =
    λ i. chosen_past r gs h s e a (rest_of M bad enters) (entry_variable M i) (omega arith) ∙ rest_entry M bad enters i in
    let state : state_in r v ≡ s = state_is r gs h v s e a enc ls le la in
    let event : event_in r v ≡ e = event_is r gs h v s e a enc ls le la in
    let base = satisfies_append v (step_clauses r gs) (bad_clause r ∷ []) (step_satisfied r gs h v s e a enc)
    (bad_true r gs h v s e a enc ∙ same_implied (v (due_variable M 0)) bad (dues 0 ∙ due_none bad enters)) in
    let uncovered : covered rows (state_in r v) ≡ false = ap (covered rows) state ∙ cand.uncovered in
    let steps = rows_satisfied r gs h v s e a enc 0 rows fit uncovered
    (λ j. dues (j + 1) ∙ due_next bad enters j ∙ ap (λ b. b || due_at bad enters j) (sym (entries j)) ∙ ap (λ b. v (entry_variable M j) || b) (sym (dues j)))
    (λ k l. entries (0 + k) ∙ ap enters (let z : 0 + k ≡ k = omega arith in z)) in
    let except = exceptions_true r gs h v xs fits
    ∙ not_from_false (excepted xs (state_in r v) (event_in r v)) (ap (λ n. excepted xs n (event_in r v)) state ∙ ap (excepted xs s) event ∙ cand.unexcepted) in (
      v,
      satisfies_append v (candidate_base r gs) (candidate_rows r 0 rows ++ map (exception_clause r) xs) base
          (satisfies_append v (candidate_rows r 0 rows) (map (exception_clause r) xs) steps except),
      truth_positive v (due_variable M (length rows)) ∙ dues (length rows) ∙ due_there r gs rows s e a cand.not_good,
      says r gs h v s e a enc ls le la,
    )
