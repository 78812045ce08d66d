use Rattle.synthesis.proofs.Sizing.{bounds}
use Rattle.synthesis.proofs.Asking.{row_of}
use Rattle.synthesis.proofs.questions.row_from.Goals as goal

pub returns : goal.returns
returns c =
    let b = bounds c.args.model.now in
    row_of c.args.model.now.«record».now c.args.pair.state c.args.pair.event c.args.marks.now c.event_inputs-events.result c.latches.result c.care_of-care.result
    c.event_inputs-events.ensures.value c.latches.ensures.value b.latches c.care_of-care.ensures
