use Rattle.std.proofs.Common.{Ok, arith}
use Rattle.std.proofs.lemmas.Bool.Decides.{nat_tests}
use Rattle.region.specs.Parts.{arena_in, rows_in}
use Rattle.session.proofs.Giving.{settle_gives}
use Rattle.session.proofs.stage.Raised.settle.Goals as goal

pub returns : goal.returns
returns c =
    settle_gives (arena_in c.args.region.now) (rows_in c.args.region.now) c.args.self c.args.wish (Ok c.judged.result) (grind (arith, nat_tests))
