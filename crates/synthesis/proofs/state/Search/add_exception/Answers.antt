use Rattle.std.proofs.Common.{rules, ◌≡◌, false, Err, refl, ap}
use Rattle.std.proofs.lemmas.Bool.{both_ways}
use Rattle.synthesis.specs.Searches.{lent_to}
use Rattle.synthesis.specs.declared.fault.RunFault.TheVariants.{ExceptionsFull}
use Rattle.synthesis.proofs.Adding.{grown, no_place, exception_whole, exceptions_full, exception_turning}
use Rattle.synthesis.proofs.state.Search.add_exception.Goals as goal

pub returns-in_err-map_err-clause-after : goal.returns-in_err-map_err-clause-after
returns-in_err-map_err-clause-after g c =
    let n = no_place c.args.self.now.exceptions.now c.append.new.self c.args.exception c.append.result c.append.ensures.cases c.in_err-map_err.ensures.variant in
    let e : c.from_residual.result ≡ Err (ExceptionsFull c.count-rows.result) = search rules in
    rw e (exceptions_full (lent_to c.args.self.now) c.requires.turning c.append.new.self n.0 c.count-rows.result n.1 c.count-rows.ensures c.requires.due)

pub returns-in_err-hold_exception-clause-after : goal.returns-in_err-hold_exception-clause-after
returns-in_err-hold_exception-clause-after g c =
    let more = grown c.args.self.now.exceptions.now c.append.new.self c.args.exception c.append.result c.append.ensures.cases c.in_ok-map_err.ensures.variant in
    let w = exception_whole (lent_to c.args.self.now) c.args.self.now.room c.requires.turning c.args.exception c.append.new.self more _ _ c.in_err-hold_exception.ensures.whole in
    absurd (both_ways false refl w.0)

pub returns-clause-after : goal.returns-clause-after
returns-clause-after g c =
    let more = grown c.args.self.now.exceptions.now c.append.new.self c.args.exception c.append.result c.append.ensures.cases c.in_ok-map_err.ensures.variant in
    let w = exception_whole (lent_to c.args.self.now) c.args.self.now.room c.requires.turning c.args.exception c.append.new.self more _ _ c.in_ok-hold_exception.ensures.whole in
    exception_turning (lent_to c.args.self.now) c.requires.turning c.args.exception c.requires.good c.append.new.self more _ _ _ (ap (λ m. m.clauses) w.1) (search rules)
