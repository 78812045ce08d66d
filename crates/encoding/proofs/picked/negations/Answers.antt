use Rattle.std.proofs.Common.{rules, tests, refl, arith, map, ap, ◌∙◌}
use Rattle.std.proofs.lemmas.List.{take_all, length-map}
use Rattle.std.proofs.lemmas.Iterator.{YieldsList-from_slice, YieldsList-from_map}
use Rattle.literal.specs.Truth.{negation_of}
use Rattle.sat.proofs.Loops.{collected}
use Rattle.encoding.proofs.picked.negations.Goals as goal

pub returns : goal.returns
returns c =
    let ls = c.as_slice-literals.result.now in
    collected _ c.of.ensures (YieldsList-from_map _ negation_of (YieldsList-from_slice ls cc) refl (λ x r q k. search (rules, tests)))
    ∙ take_all 64 (map negation_of ls) (omega (arith, length-map ls negation_of, c.as_slice-literals.ensures.bound))
    ∙ ap (map negation_of) c.as_slice-literals.ensures.value
