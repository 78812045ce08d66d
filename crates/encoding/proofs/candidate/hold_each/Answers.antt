use Rattle.std.proofs.Common.{List, [], ◌∷◌, get_or, ap}
use Rattle.std.proofs.lemmas.List.Concat.{flat_map_single}
use Rattle.std.proofs.lemmas.Result.{err_from_is_err_and}
use Rattle.literal.specs.declared.Literal.{Literal}
use Rattle.circuit.specs.Parts.{blank_literal}
use Rattle.sat.specs.Clauses.{Clause}
use Rattle.encoding.specs.Clauses.{implies}
use Rattle.encoding.proofs.Holding.{loop_none, loop_more, loop_stop, loop_all, held_is, one_held, one_refused}
use Rattle.encoding.proofs.candidate.hold_each.Goals as goal

abbrev one : Literal → Literal → List Clause
one p x = implies p x ∷ []

pub loop-literal-init : goal.loop-literal-init
loop-literal-init g c = loop_none (one c.args.guard) c.args.literals.now

pub returns-in_err-hold : goal.returns-in_err-hold
returns-in_err-hold g c =
    let p = err_from_is_err_and c.from_residual.result c.from_residual.ensures.1 in
    rw (p.1, p.2)
    (held_is (flat_map_single (implies c.args.guard) c.args.literals.now)
    (loop_stop (one c.args.guard) c.args.literals.now c.loop-literal.literal-index blank_literal c.loop-literal-test.true c.loop-literal.invariant
    (held_is (ap (λ n. (n ∷ get_or c.args.literals.now c.loop-literal.literal-index blank_literal ∷ []) ∷ []) c.negation.ensures.value)
    (one_refused {m = g.S.Solver.meaning c.loop-literal.solver} _ c.in_err-hold.field-0.0 c.in_err-hold.ensures.refused c.in_err-hold.ensures.after))))

pub loop-literal-preserved : goal.loop-literal-preserved
loop-literal-preserved g c =
    loop_more (one c.args.guard) c.args.literals.now c.loop-literal.literal-index blank_literal c.loop-literal-test.true c.loop-literal.invariant
    (held_is (ap (λ n. (n ∷ get_or c.args.literals.now c.loop-literal.literal-index blank_literal ∷ []) ∷ []) c.negation.ensures.value)
    (one_held {m = g.S.Solver.meaning c.loop-literal.solver} _ c.in_ok-hold.ensures.refused c.in_ok-hold.ensures.after))

pub returns : goal.returns
returns g c =
    held_is (flat_map_single (implies c.args.guard) c.args.literals.now)
    (loop_all (one c.args.guard) c.args.literals.now c.loop-literal.literal-index c.loop-literal-test.false c.loop-literal.invariant)
