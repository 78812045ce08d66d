use Rattle.std.proofs.Common.{ap, sym, ◌∙◌, rules, tests}
use Rattle.std.proofs.lemmas.Iterator.Consumers.{YieldsList-from_first}
use Rattle.std.proofs.lemmas.Iterator.Search.{all_from_yields_List}
use Rattle.std.proofs.lemmas.List.Folds.{list_all-map}
use Rattle.literal.specs.Truth.{values_of}
use Rattle.sat.specs.Clauses.{any_true}
use Rattle.cells.specs.Cells.{clauses, literals}
use Rattle.cells.specs.Held.{used_cells}
use Rattle.counting.proofs.solver.Counting.satisfied.Goals as goal

pub returns : goal.returns
returns c =
    let v = values_of c.args.values.now in
    let cs = clauses (used_cells c.args.self.now.cells) in
    all_from_yields_List (λ ns. any_true v (literals ns)) c.all.new.self _ c.all.result c.all.ensures.ran
    (YieldsList-from_first (λ h. h.codes.now) (λ s. clauses s.cells.now) cs (ap clauses c.clauses.ensures)) (λ x b q k. search (rules, tests))
    ∙ sym (list_all-map (any_true v) literals cs)
