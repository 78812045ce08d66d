use Rattle.std.proofs.Common.{◌∙◌, arith}
use Rattle.circuit.specs.Parts.{blank_gate}
use Rattle.circuit.proofs.Tables.{gates_more}
use Rattle.circuit.proofs.model.Model.put_gates.Goals as goal

pub loop-gate-preserved : goal.loop-gate-preserved
loop-gate-preserved c =
    let o = c.loop-gate in
    let gs = c.used_gates-gate-items in
    gates_more gs.result.now o.gate-index 4097 blank_gate o.values c.variable.result c.holds.result gs.ensures.placed c.loop-gate-test.true (omega arith) c.variable.ensures c.holds.ensures
    ∙ o.invariant
