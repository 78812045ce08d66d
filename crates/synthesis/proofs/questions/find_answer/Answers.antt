use Rattle.std.proofs.Common.{length}
use Rattle.synthesis.proofs.Asking.{row_put, row_passes}
use Rattle.synthesis.proofs.Ends.{never_refused}
use Rattle.synthesis.proofs.questions.find_answer.Goals as goal

pub returns-in_err-narrow : goal.returns-in_err-narrow
returns-in_err-narrow g c =
    let m = c.args.model.now in
    let a = (row_put m.«record».now m.gates.now m.fit c.args.pair.state c.args.pair.event _ _ _ c.as_slice.result.now c.none-assumed.ensures c.push_event.ensures c.push_state.ensures c.as_slice.ensures.value) in
    never_refused c.in_err-narrow.field-0.0 c.in_err-narrow.ensures.refused
    (row_passes m.«record».now m.gates.now m.fit _ c.args.pair.state c.args.pair.event c.event_inputs.result (length c.args.work.now) c.as_slice.result.now a c.event_inputs.ensures.value c.requires.variables c.requires.room)
