use Rattle.std.proofs.Common.{rules, tests, refl}
use Rattle.std.proofs.lemmas.Iterator.{YieldsList-from_slice, YieldsList-from_map}
use Rattle.sat.proofs.Loops.{collected}
use Rattle.encoding.specs.Literals.{clause_literal}
use Rattle.encoding.proofs.Models.{next_filled}
use Rattle.encoding.proofs.model_literals.next_of.Goals as goal

pub returns : goal.returns
returns c =
    let m = c.args.model.now in
    let M = c.of-variables.result.maximum in
    let table = collected _ c.of.ensures (YieldsList-from_map _ (λ l. clause_literal M l.next) (YieldsList-from_slice c.used_latches.result.now cc) refl (λ x r q k. search (rules, tests))) in
    let p = next_filled m.«record».now m.gates.now m.fit c.of.result _ M c.used_latches.ensures.value c.of-variables.ensures table in
    record { value = p.0; bound = p.1 }
