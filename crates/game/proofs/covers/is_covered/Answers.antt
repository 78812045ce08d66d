use Rattle.std.proofs.Common.{◌≡◌, ◌∙◌}
use Rattle.roll.proofs.First.{any_first}
use Rattle.game.specs.Rows.{covered}
use Rattle.game.proofs.Covered.{at}
use Rattle.game.proofs.Judged.{judges}
use Rattle.game.proofs.covers.is_covered.Goals as goal

pub returns : goal.returns
returns c =
    let e : c.is_some.result ≡ covered c.args.rows.now c.args.state =
    c.is_some.ensures ∙ any_first (at c.args.state) c.args.rows.now c.first_covering.result c.first_covering.ensures.cases in
    record { value = e; judges = judges c.args.rows.now c.args.state c.is_some.result e }
