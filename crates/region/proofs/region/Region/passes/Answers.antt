use Rattle.std.proofs.Common.{arith}
use Rattle.std.proofs.lemmas.Grind.{common_steps}
use Rattle.region.proofs.Passing.{region_judged}
use Rattle.region.proofs.region.Region.passes.Goals as goal

pub returns-clause-judged : goal.returns-clause-judged
returns-clause-judged c =
    region_judged c.args.self.now c.args.state c.args.event c.args.answer c.then_some.result (grind (arith, common_steps))
