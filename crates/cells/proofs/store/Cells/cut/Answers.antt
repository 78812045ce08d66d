use Rattle.std.proofs.Common.{◌∙◌, arith}
use Rattle.cells.proofs.Stores.{front_fits, kept_on, taken_more, taken_all}
use Rattle.cells.proofs.store.Cells.cut.Goals as goal

pub overflow_add-used-in-loop-clause : goal.overflow_add-used-in-loop-clause
overflow_add-used-in-loop-clause c =
    let n = taken_more _ _ _ _ _ _ _ c.in-Some.ensures.steps.0 c.in-Some.ensures.steps.1 c.loop-clause.invariant.2 in
    omega (arith, front_fits c.args.self.now c.args.kept, n, c.args.self.now.within, c.len.ensures)

pub loop-clause-preserved : goal.loop-clause-preserved
loop-clause-preserved c =
    let n = taken_more _ _ _ _ _ _ _ c.in-Some.ensures.steps.0 c.in-Some.ensures.steps.1 c.loop-clause.invariant.2 in
    (tt, tt, omega (arith, n, c.len.ensures))

pub invariant_of-self : goal.invariant_of-self
invariant_of-self c =
    let s = c.args.self.now in
    let e = taken_all _ _ _ _ (λ h. (c.in-None.ensures.steps h).0) c.loop-clause.invariant.2 in
    let f = (kept_on s c.args.kept c.loop-clause.used e).0 in
    record { within = omega (arith, e, front_fits s c.args.kept, s.within); coded = f.coded; small = f.small; counted = c.min-self.ensures ∙ f.counted }

pub returns-clause-after : goal.returns-clause-after
returns-clause-after c =
    (kept_on c.args.self.now c.args.kept c.loop-clause.used (taken_all _ _ _ _ (λ h. (c.in-None.ensures.steps h).0) c.loop-clause.invariant.2)).1
