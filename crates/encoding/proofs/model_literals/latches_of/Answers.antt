use Rattle.std.proofs.Common.{rules, tests, refl}
use Rattle.std.proofs.lemmas.Iterator.{YieldsList-from_slice, YieldsList-from_map}
use Rattle.sat.proofs.Loops.{collected}
use Rattle.encoding.proofs.Models.{latches_filled}
use Rattle.encoding.proofs.model_literals.latches_of.Goals as goal

pub returns : goal.returns
returns c =
    let m = c.args.model.now in
    let table = collected _ c.of.ensures (YieldsList-from_map _ (λ l. l.literal) (YieldsList-from_slice c.used_latches.result.now cc) refl (λ x r q k. search (rules, tests))) in
    let p = latches_filled m.«record».now m.gates.now m.fit c.of.result _ c.used_latches.ensures.value table in
    record { value = p.0; bound = p.1 }
