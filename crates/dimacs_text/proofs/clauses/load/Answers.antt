use Rattle.dimacs_text.proofs.Loadings.{loading_more}
use Rattle.dimacs_text.proofs.clauses.load.Goals as goal

pub loop-first-preserved : goal.loop-first-preserved
loop-first-preserved g c =
    loading_more c.args.entries.now c.loop-first.rest.now c.in-Some.after.now c.loop-first.held _ _ _ c.in-Some.first.now c.loop-first.invariant c.in-Some.ensures.0
    c.in_ok-hold.ensures.after
