use Rattle.std.proofs.Common.{map, ap, ◌∙◌, arith}
use Rattle.encoding.specs.Literals.{cared}
use Rattle.encoding.specs.Clauses.{implies}
use Rattle.encoding.proofs.Holding.{held_is}
use Rattle.encoding.proofs.Tables.{mask_literals}
use Rattle.encoding.proofs.candidate.hold_entries.Goals as goal

pub returns : goal.returns
returns g c =
    let row = c.args.row in
    let these = mask_literals c.next_of.result _ _ row.care row.value (omega (arith, c.next_of.ensures.bound)) c.none-inside.ensures c.push_cared.ensures in
    held_is (ap (map (implies c.args.entry)) (c.as_slice.ensures.value ∙ these ∙ ap (λ t. cared t row.care row.value) c.next_of.ensures.value)) c.hold_each.ensures
