use Rattle.std.proofs.Common.{◌∙◌, arith}
use Rattle.circuit.specs.Parts.{blank_latch}
use Rattle.circuit.proofs.Tables.{latches_more}
use Rattle.circuit.proofs.model.Model.put_latches.Goals as goal

pub loop-latch-preserved : goal.loop-latch-preserved
loop-latch-preserved c =
    let o = c.loop-latch in
    let ls = c.used_latches-latch-items in
    latches_more ls.result.now o.latch-index 4097 blank_latch o.state o.values c.variable.result ls.ensures.placed c.loop-latch-test.true (omega arith) c.variable.ensures
    ∙ o.invariant
