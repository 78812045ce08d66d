use Rattle.std.proofs.Common.{◌≡◌, ◌+◌, drop, sym, ap, ◌∙◌, subst, arith, rules}
use Rattle.sat.specs.Answers.{Narrowed}
use Rattle.sat.specs.declared.answer.Answer.TheVariants.{No}
use Rattle.sat.specs.Clauses.{Meaning, Unsatisfiable, marked}
use Rattle.sat.specs.Faults.{in_range}
use Rattle.sat.proofs.Decisions.{narrowed_from, zeroed_all, zeroed_same, narrowly_no}
use Rattle.narrowing.proofs.Trying.{asked_no, begun}
use Rattle.narrowing.proofs.narrow.NarrowingNarrowingSolver.narrow.Goals as goal

pub drop_each-requires : goal.drop_each-requires
drop_each-requires g c =
    let m = g.S.Solver.meaning c.args.self.now.below in
    let ls = c.args.assumed.now in
    let no : c.in_ok-answer.answer ≡ No = search rules in
    let n = asked_no m.variables _ m.clauses ls c.args.first c.args.values.now c.args.marks.now _ _ _ c.variables-variables.ensures c.in_ok-check_narrow.ensures c.in_ok-answer.ensures.cases no in
    let same = c.decide.ensures.same in
    let b = begun m.clauses ls c.args.first _ _ _ n.refuted n.few (omega (arith, n.passes.marks_fit, c.decide.auto.marks)) c.fill_front.ensures in
    let C : Meaning → Type 0 = λ x. Unsatisfiable x.clauses (marked ls c.fill_front.new.bytes) in
    record {
      ranged = ap (λ x. in_range x.variables ls) same ∙ n.passes.ranged;
      short = n.passes.short;
      firsts = b.firsts;
      bits = b.bits;
      none = subst C (sym same) b.none;
      values_room = omega (arith, ap (λ x. x.variables) same, n.passes.values_fit, c.decide.auto.values);
      marks_room = omega (arith, n.passes.marks_fit, c.decide.auto.marks, b.long);
    }

pub returns-in_ok-drop_each : goal.returns-in_ok-drop_each
returns-in_ok-drop_each g c =
    let m = g.S.Solver.meaning c.args.self.now.below in
    let ls = c.args.assumed.now in
    let f = c.args.first in
    let no : c.in_ok-answer.answer ≡ No = search rules in
    let n = asked_no m.variables _ m.clauses ls f c.args.values.now c.args.marks.now _ _ _ c.variables-variables.ensures c.in_ok-check_narrow.ensures c.in_ok-answer.ensures.cases no in
    let same = c.decide.ensures.same in
    let b = begun m.clauses ls f _ _ _ n.refuted n.few (omega (arith, n.passes.marks_fit, c.decide.auto.marks)) c.fill_front.ensures in
    let N : Meaning → Type 0 = λ x. Narrowed x.clauses ls f c.fill_front.new.bytes c.drop_each.new.marks in
    let D : Meaning → Type 0 = λ x. drop (x.variables + 1) c.drop_each.new.values ≡ drop (x.variables + 1) c.decide.new.values in
    let values-rest = subst D same c.drop_each.ensures.rest ∙ ap (λ x. drop (m.variables + 1) x) n.same in
    record {
      refused = n.refused;
      cases = narrowly_no m.variables m.clauses ls f c.args.values.now c.args.marks.now c.fill_front-then-eq.new.bytes c.drop_each.new.marks c.in_ok-answer.answer no
          (narrowed_from m.clauses ls f c.args.marks.now c.fill_front.new.bytes c.drop_each.new.marks b.rest (subst N same c.drop_each.ensures.narrowed))
          (zeroed_all (c.variables-variables.result + 1) m.variables c.drop_each.new.values c.fill_front-then-eq.new.bytes (ap (λ x. x + 1) c.variables-variables.ensures)
          (omega (arith, n.passes.values_fit, c.decide.auto.values, c.drop_each.auto.values)) c.fill_front-then-eq.ensures
          ∙ zeroed_same (m.variables + 1) c.args.values.now c.drop_each.new.values values-rest);
      same = c.drop_each.ensures.same ∙ same;
    }
