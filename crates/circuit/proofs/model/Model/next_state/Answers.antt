use Rattle.std.proofs.Common.{ap, length, rules, arith}
use Rattle.bits.proofs.Numbers.{acts_as}
use Rattle.literal.specs.Truth.{truth, values_of}
use Rattle.circuit.proofs.Numbers.{next_bits}
use Rattle.circuit.proofs.Soundness.{as_many_latches, few_latches}
use Rattle.circuit.proofs.model.Model.next_state.Goals as goal

pub number-requires-clause-few : goal.number-requires-clause-few
number-requires-clause-few c =
    let m = c.args.self.now in
    omega (arith, ap length c.used_latches.ensures.value, as_many_latches m.record.now m.gates.now m.fit, few_latches m.record.now m.gates.now m.fit)

pub returns : goal.returns
returns c =
    let v = values_of c.args.values.now in
    rw (← c.used_latches.ensures.value, next_bits) (acts_as _ _ (λ l. truth v l.next) (λ x b k. search rules) c.used_latches.result.now c.number.result c.number.ensures)
