use Rattle.std.proofs.Common.{◌≡◌, ◌+◌, List, ℕ, drop, sym, ap, ◌∙◌, subst, arith}
use Rattle.sat.specs.Clauses.{Meaning}
use Rattle.sat.proofs.Narrowing.{NarrowedBelow, narrowed_skipped}
use Rattle.narrowing.specs.Drops.{Tried}
use Rattle.narrowing.proofs.Trying.{tried_more}
use Rattle.narrowing.proofs.drops.drop_each.Goals as goal
use Rattle.narrowing.proofs.drops.drop_each.Goals.{then-marks-i-eq1+in_ok-try_without, else-marks-i-eq1}

pub loop-i-preserved : goal.loop-i-preserved
loop-i-preserved g c =
    let m = g.S.Solver.meaning c.args.below.now in
    let ls = c.args.assumed.now in
    let f = c.args.first in
    let i = c.loop-i.i in
    let s = c.loop-i.invariant in
    let P : List ℕ → Type 0 = λ x. NarrowedBelow m.clauses ls f (i + 1) c.args.marks.now x in
    elim c.if-marks-i-eq1.branch [
      | then-marks-i-eq1+in_ok-try_without w ↦
          let e = w.try_without.ensures in
          let T : Meaning → Type 0 = λ x. Tried x.clauses ls f i c.loop-i.marks w.try_without.new.marks in
          let D : Meaning → Type 0 = λ x. drop (x.variables + 1) w.try_without.new.values ≡ drop (x.variables + 1) c.loop-i.values in (
            subst P (sym w.marks-is) (tried_more m.clauses ls f i c.args.marks.now c.loop-i.marks w.try_without.new.marks s.0 (omega arith) (subst T s.2 e.cases)),
            ap (λ x. drop (m.variables + 1) x) w.values-is ∙ subst D s.2 e.rest ∙ s.1,
            ap (λ x. g.S.Solver.meaning x) w.below-is ∙ e.same ∙ s.2,
          )
      | else-marks-i-eq1 w ↦ (
        subst P (sym w.marks-is) (narrowed_skipped m.clauses ls f i c.args.marks.now c.loop-i.marks s.0 w.if-marks-i-eq1.false),
        ap (λ x. drop (m.variables + 1) x) w.values-is ∙ s.1,
        ap (λ x. g.S.Solver.meaning x) w.below-is ∙ s.2,
      )
    ]
