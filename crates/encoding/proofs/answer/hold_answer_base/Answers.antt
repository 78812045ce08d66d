use Rattle.std.proofs.Common.{◌≡◌, [], ◌∷◌, ◌++◌, refl, ap, ◌∙◌}
use Rattle.std.proofs.lemmas.Result.{err_from_is_err_and}
use Rattle.literal.specs.Truth.{negation_of}
use Rattle.encoding.specs.Literals.{clause_literal}
use Rattle.encoding.specs.Clauses.{step_clauses, good_clause, answer_base}
use Rattle.encoding.proofs.Holding.{then_is, stop_is, held_one, whole_from}
use Rattle.encoding.proofs.Sizes.{answer_fits}
use Rattle.encoding.proofs.answer.hold_answer_base.Goals as goal

pub returns-in_err-hold_step-clause-held : goal.returns-in_err-hold_step-clause-held
unfolding answer_base
returns-in_err-hold_step-clause-held g c =
    let p = err_from_is_err_and c.from_residual.result c.from_residual.ensures.1 in
    rw (p.1, p.2)
    (stop_is (good_clause c.args.model.now.«record».now ∷ []) refl c.in_err-hold_step.ensures)

pub returns-in_err-hold_step-clause-whole : goal.returns-in_err-hold_step-clause-whole
returns-in_err-hold_step-clause-whole g c wide room =
    let m = c.args.model.now in
    whole_from c.from_residual.result _ (returns-in_err-hold_step-clause-held g c) ((answer_fits m.«record».now m.gates.now m.fit _ wide).base) room

pub returns-clause-held : goal.returns-clause-held
unfolding answer_base
returns-clause-held g c =
    let r = c.args.model.now.«record».now in
    let step = step_clauses r c.args.model.now.gates.now in
    let e : step ++ (c.negation.result ∷ []) ∷ [] ≡ answer_base r c.args.model.now.gates.now =
    ap (λ l. step ++ (l ∷ []) ∷ []) (c.negation.ensures.value ∙ ap negation_of (c.clause_literal-output.ensures
    ∙ ap (λ n. clause_literal n c.output.result) c.of.ensures ∙ ap (clause_literal r.maximum) c.output.ensures)) in
    then_is e c.in_ok-hold_step.ensures (held_one _ c.hold.result c.hold.ensures.refused c.hold.ensures.after)

pub returns-clause-whole : goal.returns-clause-whole
returns-clause-whole g c wide room =
    let m = c.args.model.now in
    whole_from c.hold.result _ (returns-clause-held g c) ((answer_fits m.«record».now m.gates.now m.fit _ wide).base) room
