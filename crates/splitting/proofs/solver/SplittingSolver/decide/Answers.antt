use Rattle.std.proofs.Common.{ℕ, sym, refl, ap, subst, arith}
use Rattle.sat.specs.Clauses.{Meaning}
use Rattle.cells.specs.Held.{used_cells}
use Rattle.splitting.specs.Written.{Valued}
use Rattle.splitting.proofs.Refusals.{decide_accepts}
use Rattle.splitting.proofs.Publics.{solved, refuted}
use Rattle.splitting.proofs.solver.SplittingSolver.decide.Goals as goal

pub returns-then-solve-clause-cases : goal.returns-then-solve-clause-cases
returns-then-solve-clause-cases c =
    let a = decide_accepts _ _ _ _ (sym c.in_ok-check_decide.ensures) in
    let s = c.args.self.now in
    let value = c.solve.new.self.trail.value.now in
    let P : ℕ → Type 0 = λ V. Valued value V c.args.values.now c.write.new.values in (
      solved s value c.args.values.now c.write.new.values c.args.assumed.now (subst P (ap (λ (m : Meaning). m.variables) c.solve.ensures.same) c.write.ensures)
          (c.solve.ensures.met c.if-solve.true) a.0.ranges (c.solve.ensures.granted c.if-solve.true),
      refl,
    )

pub returns-else-solve-clause-cases : goal.returns-else-solve-clause-cases
returns-else-solve-clause-cases c =
    let a = decide_accepts _ _ _ _ (sym c.in_ok-check_decide.ensures) in (
      refuted (used_cells c.args.self.now.cells) c.solve.new.self.seen.now c.args.marks.now c.mark.new.marks c.args.assumed.now
          (c.solve.ensures.none c.if-solve.false) (omega (arith, a.2, c.mark.auto.marks)) c.mark.ensures,
      refl,
    )
