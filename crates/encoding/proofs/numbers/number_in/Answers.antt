use Rattle.std.proofs.Common.{ap, ◌∙◌, rules}
use Rattle.bits.proofs.Numbers.{acts_as}
use Rattle.literal.specs.Truth.{truth}
use Rattle.sat.specs.Clauses.{byte_values}
use Rattle.encoding.specs.Literals.{number_in}
use Rattle.encoding.proofs.numbers.number_in.Goals as goal

pub returns : goal.returns
returns c =
    acts_as _ _ (truth (byte_values c.args.values.now)) (λ x b k. search rules) _ c.number.result c.number.ensures
    ∙ ap (number_in (byte_values c.args.values.now)) c.as_slice.ensures.value
