use Rattle.std.proofs.Common.{◌≡◌, ℕ, ◌+◌, ◌-◌, ◌*◌, ◌%◌, false, cond, eqb, [], ◌∷◌, ◌++◌, map, refl, ap, ◌∙◌, arith}
use Rattle.std.proofs.lemmas.Bool.{ne_eqb}
use Rattle.std.proofs.lemmas.Result.{err_from_is_err_and}
use Rattle.literal.specs.Truth.{negation_of}
use Rattle.encoding.specs.Literals.{positive, negative, entry_variable, due_variable, cared, next_literals}
use Rattle.encoding.specs.Clauses.{implies, entry_clauses, choice_clause, candidate_row}
use Rattle.encoding.proofs.Holding.{held_is, then_is, stop_is, held_then, held_stop, held_one, whole_from}
use Rattle.encoding.proofs.Sizes.{candidate_row_fits}
use Rattle.encoding.proofs.candidate.hold_candidate_row.Goals as goal

negated_positive : (x : ℕ) → negation_of (positive x) ≡ negative x
negated_positive x =
    let even : eqb (2 * x % 2) 1 ≡ false = ne_eqb (2 * x % 2) 1 (omega arith) in
    ap (λ b. record { code = cond b (2 * x - 1) (2 * x + 1) }) even

pub returns-in_err-hold_outside-clause-held : goal.returns-in_err-hold_outside-clause-held
unfolding candidate_row
returns-in_err-hold_outside-clause-held g c placed =
    let r = c.args.model.now.«record».now in
    let p = err_from_is_err_and c.from_residual.result c.from_residual.ensures.1 in
    rw (p.1, p.2) (stop_is (entry_clauses r c.args.row c.args.place ++ choice_clause r c.args.place ∷ []) refl c.in_err-hold_outside.ensures)

pub returns-in_err-hold_outside-clause-whole : goal.returns-in_err-hold_outside-clause-whole
returns-in_err-hold_outside-clause-whole g c placed wide room =
    let m = c.args.model.now in
    whole_from c.from_residual.result _ (returns-in_err-hold_outside-clause-held g c placed)
    (candidate_row_fits m.«record».now m.gates.now m.fit _ (omega arith) c.args.place (omega arith) c.args.row) room

pub returns-in_err-hold_entries-clause-held : goal.returns-in_err-hold_entries-clause-held
unfolding candidate_row
returns-in_err-hold_entries-clause-held g c placed =
    let r = c.args.model.now.«record».now in
    let row = c.args.row in
    let p = err_from_is_err_and c.from_residual-in_err-hold_entries.result c.from_residual-in_err-hold_entries.ensures.1 in
    let entry : c.entry-entry.result ≡ positive (entry_variable r.maximum c.args.place) = c.entry-entry.ensures ∙ ap (λ n. positive (entry_variable n c.args.place)) c.of-variables.ensures in
    rw (p.1, p.2)
    (then_is refl c.in_ok-hold_outside.ensures
    (held_stop (choice_clause r c.args.place ∷ []) (held_is (ap (λ e. map (implies e) (cared (next_literals r) row.care row.value)) entry) c.in_err-hold_entries.ensures)))

pub returns-in_err-hold_entries-clause-whole : goal.returns-in_err-hold_entries-clause-whole
returns-in_err-hold_entries-clause-whole g c placed wide room =
    let m = c.args.model.now in
    whole_from c.from_residual-in_err-hold_entries.result _ (returns-in_err-hold_entries-clause-held g c placed)
    (candidate_row_fits m.«record».now m.gates.now m.fit _ (omega arith) c.args.place (omega arith) c.args.row) room

pub returns-clause-held : goal.returns-clause-held
unfolding candidate_row
returns-clause-held g c placed =
    let r = c.args.model.now.«record».now in
    let row = c.args.row in
    let entry : c.entry-entry.result ≡ positive (entry_variable r.maximum c.args.place) = c.entry-entry.ensures ∙ ap (λ n. positive (entry_variable n c.args.place)) c.of-variables.ensures in
    let M = c.of-variables.result.maximum in
    let choice : (c.negation-after.result ∷ c.entry-entry.result ∷ c.due-2.result ∷ []) ∷ [] ≡ choice_clause r c.args.place ∷ [] =
    ap (λ l. (l ∷ c.entry-entry.result ∷ c.due-2.result ∷ []) ∷ []) (c.negation-after.ensures.value ∙ ap negation_of c.due.ensures ∙ negated_positive _)
    ∙ ap (λ l. (negative (due_variable M (c.args.place + 1)) ∷ l ∷ c.due-2.result ∷ []) ∷ []) c.entry-entry.ensures
    ∙ ap (λ l. (negative (due_variable M (c.args.place + 1)) ∷ positive (entry_variable M c.args.place) ∷ l ∷ []) ∷ []) c.due-2.ensures
    ∙ ap (λ n. (negative (due_variable n (c.args.place + 1)) ∷ positive (entry_variable n c.args.place) ∷ positive (due_variable n c.args.place) ∷ []) ∷ []) c.of-variables.ensures in
    then_is refl c.in_ok-hold_outside.ensures
    (held_then (held_is (ap (λ e. map (implies e) (cared (next_literals r) row.care row.value)) entry) c.in_ok-hold_entries.ensures)
    (held_is choice (held_one _ c.hold.result c.hold.ensures.refused c.hold.ensures.after)))

pub returns-clause-whole : goal.returns-clause-whole
returns-clause-whole g c placed wide room =
    let m = c.args.model.now in
    whole_from c.hold.result _ (returns-clause-held g c placed)
    (candidate_row_fits m.«record».now m.gates.now m.fit _ (omega arith) c.args.place (omega arith) c.args.row) room
