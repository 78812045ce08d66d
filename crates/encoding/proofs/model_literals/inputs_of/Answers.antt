use Rattle.std.proofs.Common.{rules, tests, refl}
use Rattle.std.proofs.lemmas.Iterator.{YieldsList-from_slice, YieldsList-from_map}
use Rattle.std.proofs.lemmas.Iterator.Consumers.{YieldsList-from_filter}
use Rattle.circuit.specs.Settled.{same_side}
use Rattle.sat.proofs.Loops.{collected}
use Rattle.encoding.proofs.Models.{inputs_filled}
use Rattle.encoding.proofs.model_literals.inputs_of.Goals as goal

pub returns : goal.returns
returns c =
    let m = c.args.model.now in
    let table = collected _ c.of.ensures
    (YieldsList-from_map _ (λ i. i.literal)
    (YieldsList-from_filter _ (λ i. same_side c.args.side i.side) (YieldsList-from_slice c.used_inputs.result.now cc) refl (λ x b q k. search (rules, tests))) refl (λ x r q k. search (rules, tests))) in
    let p = inputs_filled m.«record».now m.gates.now m.fit c.of.result c.args.side _ c.used_inputs.ensures.value table in
    record { value = p.0; bound = p.1 }
