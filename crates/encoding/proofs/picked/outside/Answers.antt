use Rattle.std.proofs.Common.{map, ap, ◌∙◌, arith}
use Rattle.literal.specs.Truth.{negation_of}
use Rattle.encoding.proofs.Tables.{mask_literals}
use Rattle.encoding.proofs.picked.outside.Goals as goal

pub returns : goal.returns
returns c =
    c.negations.ensures
    ∙ ap (map negation_of) (mask_literals c.args.literals.now _ _ c.args.care c.args.value (omega (arith, c.requires)) c.none-inside.ensures c.push_cared.ensures)
