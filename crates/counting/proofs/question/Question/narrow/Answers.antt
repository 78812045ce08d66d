use Rattle.std.proofs.Common.{set, sym, ap, ◌∙◌, arith}
use Rattle.sat.specs.Faults.{in_range}
use Rattle.cells.specs.Held.{held}
use Rattle.sat.proofs.Laws.{marked_picked, range_marked}
use Rattle.counting.proofs.Tried.{tried_stays, tried_dropped}
use Rattle.counting.proofs.question.Question.narrow.Goals as goal
use Rattle.counting.proofs.question.Question.narrow.Goals.{then-is_some, else-is_some}

pub invariant_of-rest : goal.invariant_of-rest
invariant_of-rest c =
    let ms = set c.loop-i.marks c.loop-i.i 0 in
    let e = c.as_slice.ensures.value ∙ c.marked-picked.ensures ∙ marked_picked c.args.self.now.assumed.now ms c.args.self.now.short in
    record {
      ranged = ap (in_range c.args.self.now.solver.now.variables) e ∙ range_marked c.args.self.now.solver.now.variables c.args.self.now.assumed.now ms c.args.self.now.ranged;
      short = c.as_slice.ensures.bound;
    }

pub loop-i-preserved : goal.loop-i-preserved
loop-i-preserved c =
    let ms = set c.loop-i.marks c.loop-i.i 0 in
    let e = c.as_slice.ensures.value ∙ c.marked-picked.ensures ∙ marked_picked c.args.self.now.assumed.now ms c.args.self.now.short in
    let cs = held c.args.self.now.solver.now.cells in
    elim c.if-is_some.branch [
      | then-is_some w ↦ tried_stays cs c.args.self.now.assumed.now c.args.first c.loop-i.i c.args.marks.now c.loop-i.marks c.as_slice.result.now c.solve.result
          (omega arith) (omega arith) c.loop-i.invariant e c.solve.ensures c.if-is_some.marks w.marks-is (sym c.is_some.ensures ∙ w.if-is_some.true)
      | else-is_some w ↦ tried_dropped cs c.args.self.now.assumed.now c.args.first c.loop-i.i c.args.marks.now c.loop-i.marks c.as_slice.result.now c.solve.result
          (omega arith) (omega arith) c.loop-i.invariant e c.solve.ensures c.if-is_some.marks w.marks-is (sym c.is_some.ensures ∙ w.if-is_some.false)
    ]
