use Rattle.std.proofs.Common.{◌+◌, length, sym, ap, ◌∙◌, arith}
use Rattle.sat.specs.Clauses.{all_true, byte_values}
use Rattle.synthesis.proofs.Sizing.{bounds}
use Rattle.synthesis.proofs.Asking.{exception_put, exception_passes, narrow_yes}
use Rattle.synthesis.proofs.Ends.{never_refused}
use Rattle.synthesis.proofs.questions.find_exception.Goals as goal

pub overflow_add-first : goal.overflow_add-first
overflow_add-first g c = let b = bounds c.args.model.now in record { fits = omega (arith, c.answer_inputs-first.ensures.value) }

pub returns-in_err-narrow : goal.returns-in_err-narrow
returns-in_err-narrow g c =
    let m = c.args.model.now in
    let a = (exception_put m.«record».now m.gates.now m.fit c.args.pair.state c.args.pair.event c.args.answer c.args.rows c.due_literal.result _ _ _ _ _ c.as_slice.result.now c.requires.few c.due_literal.ensures c.none-assumed.ensures c.push_answer.ensures c.push.ensures c.push_state.ensures c.push_event.ensures c.as_slice.ensures.value) in
    never_refused c.in_err-narrow.field-0.0 c.in_err-narrow.ensures.refused
    (exception_passes m.«record».now m.gates.now m.fit _ c.args.pair.state c.args.pair.event c.args.answer c.args.rows (c.answer_inputs-first.result + 1) (length c.args.work.now) c.as_slice.result.now a
    (ap (λ k. k + 1) c.answer_inputs-first.ensures.value) c.requires.variables c.requires.room)

pub unreachable-requires : goal.unreachable-requires
unreachable-requires g c =
    let m = c.args.model.now in
    let a = (exception_put m.«record».now m.gates.now m.fit c.args.pair.state c.args.pair.event c.args.answer c.args.rows c.due_literal.result _ _ _ _ _ c.as_slice.result.now c.requires.few c.due_literal.ensures c.none-assumed.ensures c.push_answer.ensures c.push.ensures c.push_state.ensures c.push_event.ensures c.as_slice.ensures.value) in
    let y = narrow_yes _ _ _ _ _ _ _ _ c.in_ok-narrow.field-0 c.in_ok-narrow.ensures.cases c.in-Yes.is in
    c.requires.none (byte_values c.narrow.new.values) y.clauses (sym (ap (all_true (byte_values c.narrow.new.values)) a) ∙ y.assumptions)
