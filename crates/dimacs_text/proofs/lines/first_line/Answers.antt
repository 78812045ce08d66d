use Rattle.dimacs_text.proofs.Splits.{line_none, line_some}
use Rattle.dimacs_text.proofs.lines.first_line.Goals as goal

pub returns-in-Some : goal.returns-in-Some
returns-in-Some c = line_some c.args.text.now c.in-Some.line.now c.in-Some.rest.now c.in-Some.ensures.value

pub returns-in-None : goal.returns-in-None
returns-in-None c = line_none c.args.text.now c.in-None.ensures.value
