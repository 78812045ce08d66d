use Rattle.std.proofs.Common.{arith}
use Rattle.std.proofs.lemmas.Grind.{common_steps}
use Rattle.text.specs.Number.{number_of}
use Rattle.text.proofs.Inverse.{number_spelled}
use Rattle.text.proofs.number.Goals as goal

pub returns-in_default-clause-spelled : goal.returns-in_default-clause-spelled
unfolding number_of
returns-in_default-clause-spelled c = number_spelled c.args.bytes.now c.digits.result (grind (arith, common_steps))
