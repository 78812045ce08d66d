use Rattle.std.proofs.Common.{ap, ◌∙◌, eqb, rules, tests}
use Rattle.bits.proofs.Numbers.{acts_as}
use Rattle.encoding.specs.Literals.{care_of}
use Rattle.encoding.proofs.Bits.{front}
use Rattle.encoding.proofs.care.care_of.Goals as goal

pub returns : goal.returns
returns c =
    acts_as _ _ (λ m. eqb m 1) (λ x b k. search (rules, tests)) _ c.number.result c.number.ensures
    ∙ ap care_of (front c.args.marks.now 32 c.min.result c.min.ensures)
