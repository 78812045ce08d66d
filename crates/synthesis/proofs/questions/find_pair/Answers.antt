use Rattle.std.proofs.Common.{length}
use Rattle.synthesis.proofs.Asking.{due_passes}
use Rattle.synthesis.proofs.Ends.{never_refused}
use Rattle.synthesis.proofs.questions.find_pair.Goals as goal

pub returns-in_err-decide : goal.returns-in_err-decide
returns-in_err-decide g c =
    let m = c.args.model.now in
    never_refused c.in_err-decide.field-0.0 c.in_err-decide.ensures.refused
    (due_passes m.«record».now m.gates.now m.fit _ c.args.rows (length c.args.work.now) c.due_literal-due.result c.requires.few c.due_literal-due.ensures c.requires.variables c.requires.room)
