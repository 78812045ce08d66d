use Rattle.std.proofs.Common.{ap, ◌∙◌, rules}
use Rattle.std.proofs.lemmas.List.{nil_from_length}
use Rattle.cells.specs.Cells.{clauses}
use Rattle.cells.proofs.Codes.{parted, clauses_none}
use Rattle.cells.proofs.walk.ClausesIterator.next.Goals as goal

pub returns-in_err-length-clause-steps : goal.returns-in_err-length-clause-steps
returns-in_err-length-clause-steps c =
    let e = ap clauses (nil_from_length c.args.self.now.cells.now c.in_err-length.ensures.cases) ∙ clauses_none in search (rules, e)

pub split_at-requires : goal.split_at-requires
split_at-requires c = (parted _ _ _ c.in_ok-length.ensures.cases.0 c.args.self.now.coded c.args.self.now.small).fits
