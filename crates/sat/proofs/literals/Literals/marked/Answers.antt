use Rattle.std.proofs.Common.{length, take, ap, ◌∙◌}
use Rattle.std.proofs.lemmas.Slice.Zip.{zip_turn, zip_end}
use Rattle.sat.proofs.Loops.{pick_yes, pick_no, marked_end}
use Rattle.sat.proofs.literals.Literals.marked.Goals as goal

pub loop-literal-preserved-then-mark-eq1 : goal.loop-literal-preserved-then-mark-eq1
loop-literal-preserved-then-mark-eq1 c =
    let t = zip_turn c.args.assumed.now c.args.marks.now c.loop-literal.yielded c.into_iter-literal-iterator.result c.loop-literal.literal-iterator c.next.new.self _ (cc) (cc) c.loop-literal.yielded_by _ c.in-Some.is c.next.ensures.steps in
    pick_yes c.args.assumed.now c.loop-literal.picked c.args.marks.now c.loop-literal.yielded _ _ _ t c.loop-literal.invariant _ c.if-mark-eq1.true c.push.ensures

pub loop-literal-preserved : goal.loop-literal-preserved
loop-literal-preserved c =
    let t = zip_turn c.args.assumed.now c.args.marks.now c.loop-literal.yielded c.into_iter-literal-iterator.result c.loop-literal.literal-iterator c.next.new.self _ (cc) (cc) c.loop-literal.yielded_by _ c.in-Some.is c.next.ensures.steps in
    pick_no c.args.assumed.now c.loop-literal.picked c.args.marks.now c.loop-literal.yielded _ _ _ t c.loop-literal.invariant c.if-mark-eq1.false

pub returns : goal.returns
returns c =
    let e = zip_end c.args.assumed.now c.args.marks.now c.loop-literal.yielded c.into_iter-literal-iterator.result c.loop-literal.literal-iterator c.next.new.self _ (cc) (cc) c.loop-literal.yielded_by c.in-None.is c.next.ensures.steps in
    c.loop-literal.invariant ∙ ap (λ x. take 64 x) (marked_end c.args.assumed.now c.args.marks.now (length c.loop-literal.yielded) e)
