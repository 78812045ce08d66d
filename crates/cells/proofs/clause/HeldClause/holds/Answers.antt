use Rattle.std.proofs.Common.{◌<◌, sym, ◌∙◌, arith, rules, tests}
use Rattle.std.proofs.lemmas.Iterator.{YieldsList-from_slice}
use Rattle.std.proofs.lemmas.Iterator.Search.{any_from_yields_List}
use Rattle.std.proofs.lemmas.Iterator.Adapters.{serves_from_places}
use Rattle.std.proofs.lemmas.List.{get_or_default}
use Rattle.literal.specs.Truth.{truth, values_of}
use Rattle.cells.specs.Cells.{literal}
use Rattle.cells.proofs.Codes.{any_literals}
use Rattle.cells.proofs.clause.HeldClause.holds.Goals as goal

pub any-requires-clause-callable : goal.any-requires-clause-callable
any-requires-clause-callable c =
    let ns = c.args.self.now.codes.now in
    serves_from_places (YieldsList-from_slice ns c.iter.ensures.rest) (λ x q k. search (rules, tests))
    (λ x k l e. let h : x.now < 65536 = omega (arith, c.args.self.now.small k, e, get_or_default ns k x.now 0 l) in search rules)

pub returns : goal.returns
returns c =
    let v = values_of c.args.values.now in
    let ns = c.args.self.now.codes.now in
    any_from_yields_List (λ n. truth v (literal n)) _ _ c.any.result c.any.ensures.ran (YieldsList-from_slice ns c.iter.ensures.rest) (λ x b q k. search (rules, tests))
    ∙ sym (any_literals v ns)
