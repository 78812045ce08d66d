use Rattle.std.proofs.Common.{rules, refl}
use Rattle.region.specs.Judged.{Lowest}
use Rattle.region.specs.Parts.{arena_in, rows_in}
use Rattle.region.proofs.Passing.{found, lowest, answered}
use Rattle.region.proofs.FirstFound.{first_found}
use Rattle.region.proofs.region.Region.lowest_passing.Goals as goal

pub returns : goal.returns
returns c =
    let r = c.args.self.now in
    let h : Lowest (arena_in r) (rows_in r) c.args.state c.args.event c.find_map.result =
    lowest (arena_in r) (rows_in r) c.args.state c.args.event c.find_map.result
    (first_found _ _ (found (arena_in r) (rows_in r) c.args.state c.args.event) (search rules) _ _ refl c.answers.ensures c.find_map.result c.find_map.ensures.runs) in
    record { cases = h; answered = answered r c.args.state c.args.event c.find_map.result h }
