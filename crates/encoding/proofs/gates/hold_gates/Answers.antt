use Rattle.std.proofs.lemmas.Result.{err_from_is_err_and}
use Rattle.encoding.specs.Clauses.{gate_clauses}
use Rattle.encoding.proofs.Holding.{loop_none, loop_more, loop_stop, loop_all}
use Rattle.encoding.proofs.gates.hold_gates.Goals as goal

pub loop-gate-init : goal.loop-gate-init
loop-gate-init g c = loop_none (gate_clauses c.args.variables.maximum) c.args.gates.now

pub returns-in_err-hold_gate : goal.returns-in_err-hold_gate
returns-in_err-hold_gate g c =
    let p = err_from_is_err_and c.from_residual.result c.from_residual.ensures.1 in
    rw (p.1, p.2)
    (loop_stop (gate_clauses c.args.variables.maximum) c.args.gates.now c.loop-gate.gate-index _ c.loop-gate-test.true c.loop-gate.invariant
    c.in_err-hold_gate.ensures)

pub loop-gate-preserved : goal.loop-gate-preserved
loop-gate-preserved g c =
    loop_more (gate_clauses c.args.variables.maximum) c.args.gates.now c.loop-gate.gate-index _ c.loop-gate-test.true c.loop-gate.invariant
    c.in_ok-hold_gate.ensures

pub returns : goal.returns
returns g c = loop_all (gate_clauses c.args.variables.maximum) c.args.gates.now c.loop-gate.gate-index c.loop-gate-test.false c.loop-gate.invariant
