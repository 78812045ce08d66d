use Rattle.std.proofs.Common.{◌≡◌, [], ◌∷◌, ◌++◌, refl, ap, ◌∙◌, arith}
use Rattle.std.proofs.lemmas.Result.{err_from_is_err_and}
use Rattle.literal.specs.Truth.{negation_of}
use Rattle.encoding.specs.Literals.{positive, clause_literal, due_variable}
use Rattle.encoding.specs.Clauses.{step_clauses, bad_clause, candidate_base}
use Rattle.encoding.proofs.Holding.{then_is, stop_is, held_one, whole_from}
use Rattle.encoding.proofs.Sizes.{candidate_fits}
use Rattle.encoding.proofs.candidate.hold_candidate_base.Goals as goal

pub returns-in_err-hold_step-clause-held : goal.returns-in_err-hold_step-clause-held
unfolding candidate_base
returns-in_err-hold_step-clause-held g c =
    let p = err_from_is_err_and c.from_residual.result c.from_residual.ensures.1 in
    rw (p.1, p.2)
    (stop_is (bad_clause c.args.model.now.«record».now ∷ []) refl c.in_err-hold_step.ensures)

pub returns-in_err-hold_step-clause-whole : goal.returns-in_err-hold_step-clause-whole
returns-in_err-hold_step-clause-whole g c wide room =
    let m = c.args.model.now in
    whole_from c.from_residual.result _ (returns-in_err-hold_step-clause-held g c) ((candidate_fits m.«record».now m.gates.now m.fit _ (omega arith) 0 wide).base) room

pub returns-clause-held : goal.returns-clause-held
unfolding candidate_base
returns-clause-held g c =
    let r = c.args.model.now.«record».now in
    let step = step_clauses r c.args.model.now.gates.now in
    let M = c.of-variables.result.maximum in
    let e : step ++ (c.negation.result ∷ c.clause_literal-output.result ∷ []) ∷ [] ≡ candidate_base r c.args.model.now.gates.now =
    ap (λ l. step ++ (l ∷ c.clause_literal-output.result ∷ []) ∷ []) (c.negation.ensures.value ∙ ap negation_of c.due.ensures)
    ∙ ap (λ l. step ++ (negation_of (positive (due_variable M 0)) ∷ l ∷ []) ∷ []) (c.clause_literal-output.ensures ∙ ap (clause_literal M) c.output.ensures)
    ∙ ap (λ n. step ++ (negation_of (positive (due_variable n 0)) ∷ clause_literal n r.output ∷ []) ∷ []) c.of-variables.ensures in
    then_is e c.in_ok-hold_step.ensures (held_one _ c.hold.result c.hold.ensures.refused c.hold.ensures.after)

pub returns-clause-whole : goal.returns-clause-whole
returns-clause-whole g c wide room =
    let m = c.args.model.now in
    whole_from c.hold.result _ (returns-clause-held g c) ((candidate_fits m.«record».now m.gates.now m.fit _ (omega arith) 0 wide).base) room
