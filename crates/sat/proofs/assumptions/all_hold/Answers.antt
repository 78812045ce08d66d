use Rattle.std.proofs.Common.{rules, tests}
use Rattle.std.proofs.lemmas.Iterator.{YieldsList-from_slice}
use Rattle.std.proofs.lemmas.Iterator.Search.{all_from_yields_List}
use Rattle.literal.specs.Truth.{truth, values_of}
use Rattle.sat.proofs.assumptions.all_hold.Goals as goal

pub returns : goal.returns
returns c = all_from_yields_List (truth (values_of c.args.values.now)) _ _ c.all.result c.all.ensures.ran (YieldsList-from_slice c.args.literals.now cc) (λ x b q k. search (rules, tests))
