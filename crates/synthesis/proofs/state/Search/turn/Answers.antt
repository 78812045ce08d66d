use Rattle.std.proofs.Common.{sym, subst}
use Rattle.sat.specs.Clauses.{Meaning, Unsatisfiable}
use Rattle.synthesis.specs.Asked.{NoCandidate}
use Rattle.synthesis.specs.Narrow.{exception_asked}
use Rattle.synthesis.specs.Runs.{record_of}
use Rattle.synthesis.specs.Searches.{lent_to}
use Rattle.synthesis.proofs.Turns.{kept_found, row_replied, refuted_replied, exception_replied}
use Rattle.synthesis.proofs.state.Search.turn.Goals as goal

pub returns-in_default-clause-after : goal.returns-in_default-clause-after
returns-in_default-clause-after g c = (
  c.requires.turning.laid,
  kept_found (lent_to c.args.self.now) c.requires.turning c.count-rows.result c.count-rows.ensures c.in_ok-pair.field-0 c.in_ok-pair.ensures.cases c.in_default.is,
)

pub add_row-requires-clause-good : goal.add_row-requires-clause-good
add_row-requires-clause-good g c =
    (row_replied (lent_to c.args.self.now) c.requires.turning c.count-rows.result c.count-rows.ensures c.in_ok-pair.field-0 c.in_ok-pair.ensures.cases c.in-Some.pair c.in-Some.is c.in_ok-row.field-0 c.in_ok-row.ensures.cases c.in-Err.row c.in-Err.is).0

pub add_row-requires-clause-due : goal.add_row-requires-clause-due
add_row-requires-clause-due g c =
    (row_replied (lent_to c.args.self.now) c.requires.turning c.count-rows.result c.count-rows.ensures c.in_ok-pair.field-0 c.in_ok-pair.ensures.cases c.in-Some.pair c.in-Some.is c.in_ok-row.field-0 c.in_ok-row.ensures.cases c.in-Err.row c.in-Err.is).1

pub find_exception-requires-clause-none : goal.find_exception-requires-clause-none
find_exception-requires-clause-none g c =
    let asked = exception_asked (record_of (lent_to c.args.self.now)) c.in-Some.pair.state c.in-Some.pair.event c.in-Ok.given c.count-rows.result in
    let P : Meaning → Type 0 = λ m. Unsatisfiable m.clauses asked in
    subst P (sym c.find_pair.ensures.same)
    (refuted_replied (lent_to c.args.self.now) c.requires.turning c.count-rows.result c.count-rows.ensures c.in_ok-pair.field-0 c.in_ok-pair.ensures.cases c.in-Some.pair c.in-Some.is c.in_ok-row.field-0 c.in_ok-row.ensures.cases c.in-Ok.given c.in-Ok.is)

pub add_exception-requires-clause-good : goal.add_exception-requires-clause-good
add_exception-requires-clause-good g c =
    let p = c.in-Some.pair in
    let x = c.in_ok-exception-in-Ok.exception in
    let P : Meaning → Type 0 = λ m. NoCandidate (record_of (lent_to c.args.self.now)) m.clauses p.state p.event c.in-Ok.given c.count-rows.result x in
    (exception_replied (lent_to c.args.self.now) c.requires.turning c.count-rows.result c.count-rows.ensures c.in_ok-pair.field-0 c.in_ok-pair.ensures.cases c.in-Some.pair c.in-Some.is c.in_ok-row.field-0 c.in_ok-row.ensures.cases c.in-Ok.given c.in-Ok.is
    x (subst P c.find_pair.ensures.same c.in_ok-exception-in-Ok.ensures.cases)).0

pub add_exception-requires-clause-due : goal.add_exception-requires-clause-due
add_exception-requires-clause-due g c =
    let p = c.in-Some.pair in
    let x = c.in_ok-exception-in-Ok.exception in
    let P : Meaning → Type 0 = λ m. NoCandidate (record_of (lent_to c.args.self.now)) m.clauses p.state p.event c.in-Ok.given c.count-rows.result x in
    (exception_replied (lent_to c.args.self.now) c.requires.turning c.count-rows.result c.count-rows.ensures c.in_ok-pair.field-0 c.in_ok-pair.ensures.cases c.in-Some.pair c.in-Some.is c.in_ok-row.field-0 c.in_ok-row.ensures.cases c.in-Ok.given c.in-Ok.is
    x (subst P c.find_pair.ensures.same c.in_ok-exception-in-Ok.ensures.cases)).1
