use Rattle.std.proofs.Common.{rules, tests}
use Rattle.std.proofs.lemmas.Iterator.{YieldsList-from_slice}
use Rattle.std.proofs.lemmas.Iterator.Search.{all_from_yields_List}
use Rattle.sat.specs.Faults.{is_one_of}
use Rattle.sat.proofs.check.in_range.Goals as goal

pub returns : goal.returns
returns c = all_from_yields_List (is_one_of c.args.variables) _ _ c.all.result c.all.ensures.ran (YieldsList-from_slice c.args.literals.now cc) (λ x b q k. search (rules, tests))
