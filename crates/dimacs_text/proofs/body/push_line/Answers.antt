use Rattle.std.proofs.Common.{vec_items}
use Rattle.dimacs_text.proofs.Readings.{read_on, further}
use Rattle.dimacs_text.proofs.body.push_line.Goals as goal

pub loop-word-preserved : goal.loop-word-preserved
loop-word-preserved c = (
  read_on (vec_items c.loop-word.entries) (vec_items c.push.new.self) c.in-Some-entry.entry _ _ _ _ c.in_ok-push.ensures.items c.in-Some-entry.ensures.0 c.in-Some.ensures.steps
      c.loop-word.invariant.0,
  λ u. c.loop-word.invariant.1 (further _ _ _ c.in-Some.ensures.steps u),
)
