use Rattle.std.proofs.Common.{◌≡◌, ◌+◌, rules, sym, refl, ap, ◌∙◌, arith}
use Rattle.cells.specs.Held.{held}
use Rattle.sat.specs.Answers.{zeroed}
use Rattle.sat.specs.declared.answer.Answer.TheVariants.{No}
use Rattle.sat.proofs.Decisions.{decided_no, narrowly_no, narrowed_from, zeroed_all}
use Rattle.sat.proofs.Checks.{narrow_none}
use Rattle.counting.proofs.solver.CountingNarrowingSolver.narrow.Goals as goal

pub narrow-requires : goal.narrow-requires
narrow-requires c =
    let p = narrow_none _ _ _ _ _ (sym c.in_ok-check_narrow.ensures) in
    let a : c.answer-found.result ≡ No = search rules in
    let d = decided_no _ _ _ _ _ _ _ _ c.answer-found.ensures.cases a in
    record {
      first = p.1;
      room = omega (arith, p.0.marks_fit, c.answer-found.auto.marks);
      all = c.answer-found.ensures.all a;
      none = d.0.none;
    }

pub returns-then-eq : goal.returns-then-eq
returns-then-eq c =
    let p = narrow_none _ _ _ _ _ (sym c.in_ok-check_narrow.ensures) in
    let a : c.answer-found.result ≡ No = search rules in
    let V = c.args.self.now.variables in
    let cs = held c.args.self.now.cells in
    let d = decided_no V cs c.args.assumed.now c.args.values.now c.args.marks.now c.answer-found.new.values c.answer-found.new.marks c.answer-found.result c.answer-found.ensures.cases a in
    record {
      refused = c.in_ok-check_narrow.ensures;
      cases = narrowly_no V cs c.args.assumed.now c.args.first c.args.values.now c.args.marks.now c.fill_front.new.bytes c.narrow.new.marks c.answer-found.result a
          (narrowed_from cs c.args.assumed.now c.args.first c.args.marks.now c.answer-found.new.marks c.narrow.new.marks d.0.rest c.narrow.ensures)
          (zeroed_all (V + 1) V c.answer-found.new.values c.fill_front.new.bytes refl (omega (arith, p.0.values_fit, c.answer-found.auto.values)) c.fill_front.ensures
          ∙ ap (λ x. zeroed (V + 1) x) d.1);
      same = refl;
    }
