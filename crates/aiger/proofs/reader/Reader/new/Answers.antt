use Rattle.std.proofs.Common.{ap, ◌∙◌}
use Rattle.aiger.specs.Advance.{start_of, leave_inputs}
use Rattle.aiger.proofs.reader.Reader.new.Goals as goal

pub returns : goal.returns
unfolding start_of
returns c = c.leave_inputs.ensures.value ∙ ap leave_inputs (simp (c.blank-model.ensures, c.from.ensures, c.from-2.ensures, c.from-3.ensures))
