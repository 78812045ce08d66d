use Rattle.std.proofs.Common.{◌≡◌, length, ap, ◌∙◌, arith}
use Rattle.circuit.proofs.Soundness.{soundness}
use Rattle.aiger.proofs.Writing.{inputs_length}
use Rattle.aiger.proofs.writer.header_of.Goals as goal

counted : (c : goal.After-used_inputs) → length c.used_inputs.result.now ≡ c.args.model.now.record.now.input_count
counted c =
    let m = c.args.model.now in
    ap length c.used_inputs.ensures.value ∙ inputs_length m.record.now m.gates.now m.fit

pub overflow_cast-result : goal.overflow_cast-result
overflow_cast-result c =
    let m = c.args.model.now in omega (arith, counted c, (soundness m.record.now m.gates.now m.fit).sizes.inputs)

pub overflow_cast-result-2 : goal.overflow_cast-result-2
overflow_cast-result-2 c =
    let m = c.args.model.now in omega (arith, (soundness m.record.now m.gates.now m.fit).sizes.latches)

pub overflow_cast-result-3 : goal.overflow_cast-result-3
overflow_cast-result-3 c =
    let m = c.args.model.now in omega (arith, (soundness m.record.now m.gates.now m.fit).sizes.gates)

pub returns : goal.returns
returns c = simp (c.used_inputs.ensures.value, inputs_length c.args.model.now.record.now c.args.model.now.gates.now c.args.model.now.fit, c.maximum.ensures, c.latches.ensures.value, c.gates.ensures)
