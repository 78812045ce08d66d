use Rattle.roll.proofs.First.{only_first}
use Rattle.std.proofs.Common.{rules}
use Rattle.roll.specs.First.{First}
use Rattle.roll.proofs.covering.first_covering.Goals as goal

pub returns : goal.returns
returns g c =
    let f : First (λ x. g.C.Covering.covering x c.args.point.now) c.args.items.now c.position.result = search rules in
    record { cases = f; only = only_first _ _ _ f }
