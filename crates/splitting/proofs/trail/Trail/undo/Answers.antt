use Rattle.std.proofs.Common.{ℕ, subst, arith}
use Rattle.std.proofs.lemmas.List.{length-set}
use Rattle.splitting.specs.Trails.{Kept}
use Rattle.splitting.proofs.Tables.{kept_down}
use Rattle.splitting.proofs.trail.Trail.undo.Goals as goal

pub invariant_of-self : goal.invariant_of-self
invariant_of-self c =
    let t = c.loop-i.self in
    let P : ℕ → Type 0 = λ n. Kept t.value.now t.literals.now n in
    record {
      kept = kept_down t.value.now t.literals.now c.loop-i.i (subst P c.loop-i.invariant.count t.kept) (omega arith);
      literal_room = simp length-set t.literal_room;
      reason_room = simp length-set t.reason_room;
      based = omega arith;
    }
