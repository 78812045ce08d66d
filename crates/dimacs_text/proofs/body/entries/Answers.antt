use Rattle.std.proofs.Common.{vec_items}
use Rattle.std.proofs.lemmas.Result.{err_from_is_err_and}
use Rattle.dimacs_text.proofs.Readings.{line_on, line_further, line_unread}
use Rattle.dimacs_text.proofs.body.entries.Goals as goal

pub returns-in_err-push_line : goal.returns-in_err-push_line
returns-in_err-push_line c =
    let p = err_from_is_err_and c.from_residual.result c.from_residual.ensures.1 in
    rw (p.1, p.2) (line_unread _ c.in-Some.line.now _ _ _ c.in-Some.ensures.steps c.loop-line.invariant.1 c.in_err-push_line.ensures)

pub loop-line-preserved : goal.loop-line-preserved
loop-line-preserved c = (
  line_on (vec_items c.loop-line.entries) (vec_items c.push_line.new.entries) c.in-Some.line.now _ _ _ c.in_ok-push_line.ensures c.in-Some.ensures.steps c.loop-line.invariant.0,
  λ u. c.loop-line.invariant.1 (line_further c.in-Some.line.now _ _ c.in-Some.ensures.steps u),
)
