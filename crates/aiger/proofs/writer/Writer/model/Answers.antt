use Rattle.std.proofs.Common.{length, ap, arith}
use Rattle.literal.specs.declared.Literal.{Literal}
use Rattle.circuit.proofs.Soundness.{soundness}
use Rattle.aiger.proofs.Writing.{put_model, inputs_length}
use Rattle.aiger.proofs.writer.Writer.model.Goals as goal

pub symbols-requires : goal.symbols-requires
symbols-requires c =
    let m = c.args.model.now in
    omega (arith, ap length c.used_inputs-2.ensures.value, inputs_length m.record.now m.gates.now m.fit, (soundness m.record.now m.gates.now m.fit).sizes.inputs)

pub returns : goal.returns
returns c =
    let m = c.args.model.now in
    put_model m.record.now m.gates.now c.args.self.now _ _ _ _ _ _
    c.header_of.ensures c.used_inputs.ensures.value c.used_latches.ensures.value (ap (λ (l : Literal). l.code) c.output.ensures) c.used_gates.ensures.value c.used_inputs-2.ensures.value
    c.header.ensures c.lines.ensures c.lines-2.ensures c.field.ensures c.lines-3.ensures c.symbols.ensures
