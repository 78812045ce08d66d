use Rattle.std.proofs.Common.{◌+◌, ◌*◌, ◌/◌, ◌<◌, length, refl, arith}
use Rattle.std.proofs.lemmas.Bool.{leb-true}
use Rattle.splitting.specs.Passes.{due}
use Rattle.splitting.proofs.Sweeps.{front_past, passing_past, pass_ended, clash_by, front_push, forced_met, in_table, good_forced, spreads_on, sweep_pushed}
use Rattle.splitting.proofs.Weights.{less_pushed}
use Rattle.splitting.proofs.trail.Trail.propagate.Goals as goal

pub returns-in-Some-clause-end : goal.returns-in-Some-clause-end
returns-in-Some-clause-end c =
    let t = c.sweep.self in
    pass_ended c.args.cells.now t.value.now t.literals.now t.count c.sweep.front c.sweep.at c.sweep.pass _ c.in-Some.end c.in-Some.ensures (omega arith)
    (leb-true _ _) c.sweep.invariant.front c.sweep.invariant.passing

pub returns-in-Conflict-clause-end : goal.returns-in-Conflict-clause-end
returns-in-Conflict-clause-end c =
    let t = c.sweep.self in
    let q = c.sweep.invariant.at in
    let r = c.clause_at-clause.ensures.value q.number q.starts in
    (clash_by c.args.cells.now t.value.now t.literals.now t.count c.sweep.at q.number c.clause_at-clause.result.now t.kept q.starts r.clause r.below c.in-Conflict.ensures, omega arith)

pub sweep-preserved-in-Satisfied : goal.sweep-preserved-in-Satisfied
sweep-preserved-in-Satisfied c =
    let r = c.clause_at-clause.ensures.value c.sweep.invariant.at.number c.sweep.invariant.at.starts in
    record {
      good = c.sweep.invariant.good;
      front = front_past c.args.cells.now c.sweep.self.value.now c.sweep.front c.sweep.at _ c.past-front.result c.clause_at-clause.result.now c.clause_at-clause.ensures.value refl c.in-Satisfied.ensures
          c.past-front.ensures c.sweep.invariant.front;
      at = record { number = c.sweep.invariant.at.number + 1; starts = r.next };
      passing = passing_past c.sweep.pass c.sweep.self.value.now c.sweep.front c.sweep.at _ _ c.past-front.ensures c.sweep.invariant.passing;
      spread = c.sweep.invariant.spread;
    }

pub sweep-smaller-in-Forces : goal.sweep-smaller-in-Forces
sweep-smaller-in-Forces c =
    sweep_pushed _ _ (length c.args.cells.now) c.sweep.at _ (due c.sweep.pass)
    (less_pushed c.sweep.self c.push.new.self _ _ c.push.ensures.place) (omega arith) c.clause_at-clause.ensures.bound

pub sweep-preserved-in-Forces : goal.sweep-preserved-in-Forces
sweep-preserved-in-Forces c =
    let cells = c.args.cells.now in
    let t = c.sweep.self in
    let t' = c.push.new.self in
    let w = c.push.ensures.place in
    let q = c.sweep.invariant.at in
    let r = c.clause_at-clause.ensures.value q.number q.starts in
    let f = c.in-Forces.ensures in
    let clause = c.clause_at-clause.result.now in
    let l = c.in-Forces.literal in
    let inside : l / 2 < length t.value.now = omega (arith, c.sweep.invariant.spread.size, in_table cells (length c.args.self.now.value.now) q.number f.place l clause c.requires.whole r.clause r.below f.below f.is) in
    record {
      good = good_forced cells t t' l q.number c.sweep.at clause w c.sweep.invariant.good (omega arith) q.starts r.clause r.below f;
      front = front_past cells t'.value.now c.sweep.front c.sweep.at _ c.past-front-in-Forces.result clause c.clause_at-clause.ensures.value refl
          (forced_met t.value.now t'.value.now clause l f inside c.push.ensures.value) c.past-front-in-Forces.ensures
          (front_push cells t.value.now t'.value.now l c.sweep.front f.unset c.push.ensures.value c.sweep.invariant.front);
      at = record { number = q.number + 1; starts = r.next };
      passing = tt;
      spread = spreads_on c.args.self.now t t' l (2 * (c.sweep.at + 1)) w (omega arith) c.sweep.invariant.spread;
    }
