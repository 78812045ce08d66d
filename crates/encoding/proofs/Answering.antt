-- The answer clauses are satisfied exactly at good answers.
use Rattle.std.proofs.Common.{◌≡◌, ℕ, ◌^◌, ◌<◌, Bool, true, false, not, ◌&&◌, ◌||◌, List, [], ◌∷◌, map, length, sym, refl, ap, ◌∙◌, subst}
use Rattle.std.specs.List.{AllByRecursion}
use Rattle.std.proofs.lemmas.List.{length-map}
use Rattle.std.proofs.lemmas.Bool.{not-true, not_from_false}
use Rattle.literal.specs.Truth.{Values}
use Rattle.circuit.specs.declared.record.Gate.{Gate}
use Rattle.circuit.specs.declared.record.Record.{Record}
use Rattle.circuit.specs.Parts.{latches_of}
use Rattle.circuit.specs.Sound.{sound}
use Rattle.circuit.specs.Step.{bad_at, next_at}
use Rattle.sat.specs.Clauses.{all_true, satisfies}
use Rattle.sat.proofs.Laws.{satisfies_append, satisfies_parts}
use Rattle.game.specs.Models.{arena_of}
use Rattle.game.specs.Rows.{agrees, row_covers, covered}
use Rattle.game.proofs.Covered.{good_parts, good_from}
use Rattle.game.specs.declared.row.Row.{Row}
use Rattle.encoding.specs.Literals.{clause_literal, next_literals, state_in, event_in, answer_in, cared}
use Rattle.encoding.specs.Clauses.{step_clauses, good_clause, answer_base, answer_row}
use Rattle.encoding.specs.Laws.{RowFits, AnswerSound, AnswerComplete}
use Rattle.encoding.proofs.Meaning.{truth_negation, cared_true, not_all_true}
use Rattle.encoding.proofs.Parts.{latch_number}
use Rattle.encoding.proofs.Steps.{Encodes, step_sound, step_satisfied, output_bad, next_is, says, chosen, chosen_encodes}

pub not_or : (x y : Bool) → (not x && not y) ≡ not (x || y)
not_or true y = refl
not_or false y = refl

module _ (r : Record) (gs : List Gate) (h : sound r gs ≡ true) where
  -- what a row's mask picks of the next literals is true exactly where the row covers the next state
  pub next_covered : (v : Values) (s e a : ℕ) → Encodes r gs v s e a → (row : Row) → RowFits r row
      → all_true v (cared (next_literals r) row.care row.value) ≡ row_covers row (next_at r gs s e a)
  next_covered v s e a enc row fit =
      let k : length (next_literals r) ≡ r.latch_count = length-map (latches_of r) (λ l. clause_literal r.maximum l.next) ∙ latch_number r gs h in
      cared_true v (next_literals r) row.care row.value (subst (λ n. row.care < 2 ^ n) (sym k) fit.care) fit.value
      ∙ ap (agrees row.care row.value) (next_is r gs h v s e a enc)

  rows_true : (v : Values) (s e a : ℕ) → Encodes r gs v s e a → (rows : List Row) → AllByRecursion (RowFits r) rows
      → satisfies v (map (answer_row r) rows) ≡ not (covered rows (next_at r gs s e a))
  unfolding answer_row
  rows_true v s e a enc [] fit = refl
  rows_true v s e a enc (row ∷ rows) fit =
      ap (λ b. b && satisfies v (map (answer_row r) rows))
      (not_all_true v (cared (next_literals r) row.care row.value) ∙ ap not (next_covered v s e a enc row fit.0))
      ∙ ap (λ b. not (row_covers row (next_at r gs s e a)) && b) (rows_true v s e a enc rows fit.1)
      ∙ not_or (row_covers row (next_at r gs s e a)) (covered rows (next_at r gs s e a))

  good_true : (v : Values) (s e a : ℕ) → Encodes r gs v s e a → satisfies v (good_clause r ∷ []) ≡ not (bad_at r gs s e a)
  good_true v s e a enc =
      ap (λ b. (b || false) && true) (truth_negation v (clause_literal r.maximum r.output) ∙ ap not (output_bad r gs h v s e a enc))
      ∙ plain (not (bad_at r gs s e a))
    where
      plain : (b : Bool) → ((b || false) && true) ≡ b
      plain true = refl
      plain false = refl

pub answer_sound : AnswerSound
unfolding answer_base
answer_sound r gs h rows fit v sat =
    let p = satisfies_parts v (answer_base r gs) (map (answer_row r) rows) sat in
    let q = satisfies_parts v (step_clauses r gs) (good_clause r ∷ []) p.0 in
    let enc = step_sound r gs h v q.0 in
    good_from (arena_of r gs) rows (state_in r v) (event_in r v) (answer_in r v)
    (not-true (bad_at r gs (state_in r v) (event_in r v) (answer_in r v)) (sym (good_true r gs h v _ _ _ enc) ∙ q.1))
    (not-true (covered rows (next_at r gs (state_in r v) (event_in r v) (answer_in r v))) (sym (rows_true r gs h v _ _ _ enc rows fit) ∙ p.1))

pub answer_complete : AnswerComplete
unfolding answer_base
answer_complete r gs h rows fit s e a ls le la ok =
    let v : Values = chosen r gs h s e a (λ x. false) in
    let enc = chosen_encodes r gs h s e a (λ x. false) in
    let p = good_parts (arena_of r gs) rows s e a ok in (
      v,
      satisfies_append v (answer_base r gs) (map (answer_row r) rows)
          (satisfies_append v (step_clauses r gs) (good_clause r ∷ []) (step_satisfied r gs h v s e a enc)
          (good_true r gs h v s e a enc ∙ not_from_false (bad_at r gs s e a) p.0))
          (rows_true r gs h v s e a enc rows fit ∙ not_from_false (covered rows (next_at r gs s e a)) p.1),
      says r gs h v s e a enc ls le la,
    )
