use Rattle.std.proofs.Common.{◌≡◌, ℕ, ◌+◌, length, drop, refl, subst, arith}
use Rattle.sat.specs.declared.answer.Answer.TheVariants.{Yes}
use Rattle.cells.specs.Held.{held}
use Rattle.sat.proofs.Narrowing.{refuted_all, front_at}
use Rattle.counting.proofs.Written.{written_solves}
use Rattle.sat.proofs.Decisions.{yes_is_not_no}
use Rattle.counting.proofs.question.Question.answer.Goals as goal

pub returns-in-Some : goal.returns-in-Some
returns-in-Some c =
    let s = c.args.self.now.solver.now in
    let t = c.in-Some.ensures in
    let P : ℕ → Type 0 = λ n. drop (n + 1) c.write_values.new.values ≡ drop (n + 1) c.args.values.now in
    record {
      cases = (
        written_solves s.variables (held s.cells) c.args.self.now.assumed.now c.in-Some.table c.args.values.now c.write_values.new.values
            s.ranged c.args.self.now.ranged t.0 t.1 c.write_values.ensures.zero
            (λ k p l. c.write_values.ensures.value k p (omega (arith, c.variables.ensures)))
            (subst P c.variables.ensures c.write_values.ensures.rest),
        refl,
      );
      all = λ e. yes_is_not_no Yes refl e;
    }

pub returns-in-None : goal.returns-in-None
returns-in-None c =
    record {
      cases = (
        refuted_all (held c.args.self.now.solver.now.cells) c.args.self.now.assumed.now c.args.marks.now c.fill_front.new.bytes
            c.requires.marks_room c.fill_front.ensures c.in-None.ensures,
        refl,
      );
      all = λ e. front_at (length c.args.self.now.assumed.now) 1 c.args.marks.now c.fill_front.new.bytes c.requires.marks_room c.fill_front.ensures;
    }
